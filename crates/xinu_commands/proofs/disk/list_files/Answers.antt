use Rattle.std.proofs.Common.{[], ℕ, List, None, refl, sym, subst}
use Rattle.lfs_check.specs.Faults.{fault}
use Rattle.lfs_layout.specs.Images.{IsCleanImage, opened}
use Rattle.lfs_layout.proofs.MadeClean.{opened_clean}
use Rattle.run_inputs.specs.Conversions.{check_refusal}
use Rattle.xinu_commands.specs.DiskVerdict.{file_lines, ls_verdict}
use Rattle.run_inputs.specs.Fetching.{refusal_of}
use Rattle.xinu_commands.specs.Stages.{SendsOutput, Stage, no_fetches}
use Rattle.xinu_commands.specs.Work.{output_of}
use Rattle.xinu_commands.proofs.DiskVerdicts.{faultless, faulty, ls_broken, ls_does}
use Rattle.xinu_commands.proofs.Staged.{broken_stage, of_refused, sent_stage}
use Rattle.xinu_commands.proofs.disk.list_files.Goals as goal

pub returns-in_err-image : goal.returns-in_err-image
returns-in_err-image g c =
    let h = g.H.Host.view c.args.host.now in
    let items = c.args.bytes.items in
    let e = c.in_err-image.field-0.0 in
    record {
      stage = of_refused c.from_residual.result (check_refusal e) (λ ended. Stage (ls_verdict items) no_fetches [] ended None h h) c.from_residual.ensures.0 c.from_residual.ensures.1
          (broken_stage (ls_verdict items) no_fetches [] e (fault items) h c.in_err-image.ensures.image (λ x is. ls_broken items x (faulty items x is)) (λ x. refl));
    }

pub print_files-requires : goal.print_files-requires
print_files-requires g c =
    record { clean = subst IsCleanImage (sym c.in_ok-image.ensures.image.1) (opened_clean c.args.bytes.items c.in_ok-image.ensures.image.0) }

pub returns : goal.returns
returns g c =
    let h = g.H.Host.view c.args.host.now in
    let k = g.H.Host.view c.print_files.new.host in
    let items = c.args.bytes.items in
    let ended = refusal_of c.print_files.result in
    let P : List ℕ → Type 0 = λ d. SendsOutput (output_of (file_lines d) None None) [] ended h k in
    record {
      stage = sent_stage (ls_verdict items) (file_lines (opened items)) None None [] ended h k (ls_does items (faultless items c.in_ok-image.ensures.image.0))
          (subst P c.in_ok-image.ensures.image.1 c.print_files.ensures.sends);
    }
