use Rattle.std.proofs.Common.{◌∙◌, [], ℕ, List, None, refl, ap, subst}
use Rattle.lfs_check.specs.Faults.{fault, report}
use Rattle.run_inputs.specs.Conversions.{check_refusal}
use Rattle.xinu_commands.specs.DiskVerdict.{check_verdict, report_line}
use Rattle.run_inputs.specs.Fetching.{refusal_of}
use Rattle.xinu_commands.specs.Stages.{SendsOutput, Stage, no_fetches}
use Rattle.xinu_commands.specs.Work.{output_of}
use Rattle.xinu_commands.proofs.DiskVerdicts.{check_broken, check_does, faultless, faulty}
use Rattle.xinu_commands.proofs.Staged.{broken_stage, of_refused, sent_stage}
use Rattle.xinu_commands.proofs.disk.check_bytes.Goals as goal

pub returns-in_err-report : goal.returns-in_err-report
returns-in_err-report g c =
    let h = g.H.Host.view c.args.host.now in
    let bytes = c.args.bytes.now in
    let e = c.in_err-report.field-0.0 in
    record {
      stage = of_refused c.from_residual.result (check_refusal e) (λ ended. Stage (check_verdict bytes) no_fetches [] ended None h h) c.from_residual.ensures.0 c.from_residual.ensures.1
          (broken_stage (check_verdict bytes) no_fetches [] e (fault bytes) h c.in_err-report.ensures (λ x is. check_broken bytes x (faulty bytes x is)) (λ x. refl));
    }

pub returns : goal.returns
returns g c =
    let h = g.H.Host.view c.args.host.now in
    let k = g.H.Host.view c.print_line.new.host in
    let bytes = c.args.bytes.now in
    let ended = refusal_of c.print_line.result in
    let P : List ℕ → Type 0 = λ t. SendsOutput (output_of t None None) [] ended h k in
    let text = c.report_line.ensures ∙ ap report_line c.in_ok-report.ensures.1 in
    record {
      stage = sent_stage (check_verdict bytes) (report_line (report bytes)) None None [] ended h k (check_does bytes (faultless bytes c.in_ok-report.ensures.0))
          (subst P text c.print_line.ensures.sends);
    }
