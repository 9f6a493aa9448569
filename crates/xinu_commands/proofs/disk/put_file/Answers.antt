use Rattle.std.proofs.Common.{[], ◌∷◌, ℕ, List, None, refl, subst}
use Rattle.host_port.specs.Outside.{naming}
use Rattle.host_port.specs.declared.host.Channel.TheVariants.{Disk1}
use Rattle.lfs_check.specs.Faults.{fault}
use Rattle.lfs_layout.specs.Images.{opened}
use Rattle.xinu_commands.specs.Calls.{source_fetches}
use Rattle.run_inputs.specs.Conversions.{check_refusal}
use Rattle.xinu_commands.specs.DiskVerdict.{put_verdict, set_verdict}
use Rattle.run_inputs.specs.Fetching.{refusal_of}
use Rattle.xinu_commands.specs.Stages.{SetsFile, Stage, no_fetches}
use Rattle.run_inputs.specs.InputFiles.{file_bytes}
use Rattle.xinu_commands.proofs.DiskVerdicts.{faultless, faulty, put_broken}
use Rattle.xinu_commands.proofs.Staged.{broken_stage, of_refused, source_set, source_unfetched}
use Rattle.xinu_commands.proofs.disk.put_file.Goals as goal

pub returns-in_err-disk : goal.returns-in_err-disk
returns-in_err-disk g c =
    let h = g.H.Host.view c.args.host.now in
    let items = c.args.bytes.items in
    let name = c.args.name.now in
    let source = file_bytes (h.file c.args.source.now) [] in
    let outputs = naming Disk1 c.args.out.now ∷ [] in
    let e = c.in_err-disk.field-0.0 in
    record {
      sets = of_refused c.from_residual.result (check_refusal e) (λ ended. SetsFile items name c.args.source.now c.args.out.now ended h h) c.from_residual.ensures.0 c.from_residual.ensures.1
          (record { unseen = []; stage = broken_stage (put_verdict name source items) (source_fetches c.args.source.now) outputs e (fault items) h c.in_err-disk.ensures.image (λ x is. put_broken name source items x (faulty items x is)) (λ x. refl) });
    }

pub returns-in_err-source : goal.returns-in_err-source
returns-in_err-source g c =
    let h = g.H.Host.view c.args.host.now in
    let k = g.H.Host.view c.fetch.new.host in
    let r = c.in_err-source.field-0.0 in
    record {
      sets = of_refused c.from_residual-in_err-source.result r (λ ended. SetsFile c.args.bytes.items c.args.name.now c.args.source.now c.args.out.now ended h k) c.from_residual-in_err-source.ensures.0 c.from_residual-in_err-source.ensures.1
          (source_unfetched c.args.bytes.items c.args.name.now c.args.source.now c.args.out.now r h k (faultless c.args.bytes.items c.in_ok-disk.ensures.image.0) c.in_err-source.ensures.fetches);
    }

pub returns : goal.returns
returns g c =
    let items = c.args.bytes.items in
    let j = g.H.Host.view c.fetch.new.host in
    let k = g.H.Host.view c.set_file.new.host in
    let ended = refusal_of c.set_file.result in
    let P : List ℕ → Type 0 = λ b. Stage (set_verdict c.args.name.now b (opened items)) no_fetches (naming Disk1 c.args.out.now ∷ []) ended None j k in
    let Q : List ℕ → Type 0 = λ d. Stage (set_verdict c.args.name.now c.as_slice.result.now d) no_fetches (naming Disk1 c.args.out.now ∷ []) ended None j k in
    record {
      sets = source_set items c.args.name.now c.args.source.now c.args.out.now c.in_ok-source.source.items ended (g.H.Host.view c.args.host.now) j k (faultless items c.in_ok-disk.ensures.image.0)
          c.in_ok-source.ensures.bytes c.in_ok-source.ensures.fetches (subst P c.as_slice.ensures.value (subst Q c.in_ok-disk.ensures.image.1 c.set_file.ensures.stage));
    }
