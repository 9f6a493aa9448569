use Rattle.std.proofs.Common.{◌≡◌, ◌∙◌, [], ◌∷◌, ℕ, List, Some, None, refl, sym, ap₂, subst}
use Rattle.host_port.specs.Outside.{naming}
use Rattle.host_port.specs.declared.host.Channel.TheVariants.{Image}
use Rattle.lfs_check.specs.Faults.{fault}
use Rattle.lfs_layout.specs.Images.{opened}
use Rattle.run_inputs.specs.Conversions.{check_refusal}
use Rattle.xinu_commands.specs.DiskVerdict.{file_on, get_verdict}
use Rattle.run_inputs.specs.Fetching.{refusal_of}
use Rattle.xinu_commands.specs.Stages.{SendsOutput, Stage, no_fetches}
use Rattle.xinu_commands.specs.Work.{output_of}
use Rattle.run_inputs.specs.declared.refusals.Refusal.TheVariants as refusal
use Rattle.xinu_commands.proofs.DiskVerdicts.{faultless, faulty, file_found, file_missing, get_broken, get_does, get_missing}
use Rattle.xinu_commands.proofs.Staged.{broken_stage, memory_stage, of_refused, refused_last, sent_stage}
use Rattle.xinu_commands.proofs.disk.get_file.Goals as goal

pub returns-in_err-image : goal.returns-in_err-image
returns-in_err-image g c =
    let h = g.H.Host.view c.args.host.now in
    let items = c.args.bytes.items in
    let name = c.args.name.now in
    let calls = naming Image c.args.out.now ∷ [] in
    let e = c.in_err-image.field-0.0 in
    record {
      stage = of_refused c.from_residual.result (check_refusal e) (λ ended. Stage (get_verdict name items) no_fetches calls ended None h h) c.from_residual.ensures.0 c.from_residual.ensures.1
          (broken_stage (get_verdict name items) no_fetches calls e (fault items) h c.in_err-image.ensures.image (λ x is. get_broken name items x (faulty items x is)) (λ x. refl));
    }

pub returns-in_err-file : goal.returns-in_err-file
returns-in_err-file g c =
    let h = g.H.Host.view c.args.host.now in
    let calls = naming Image c.args.out.now ∷ [] in
    let v = get_verdict c.args.name.now c.args.bytes.items in
    record {
      stage = of_refused c.from_residual-in_err-file.result refusal.NoMemory (λ ended. Stage v no_fetches calls ended None h h) c.from_residual-in_err-file.ensures.0 c.from_residual-in_err-file.ensures.1 (memory_stage v no_fetches calls h);
    }

pub returns-in-Some : goal.returns-in-Some
returns-in-Some g c =
    let h = g.H.Host.view c.args.host.now in
    let k = g.H.Host.view c.send_file.new.host in
    let ended = refusal_of c.send_file.result in
    let items = c.args.bytes.items in
    let calls = naming Image c.args.out.now ∷ [] in
    let bytes = c.in-Some.file.items in
    let found_is = file_found (λ v. v.items) c.in_ok-file.field-0 c.as_bytes.result.now c.in_ok-image.image c.in_ok-file.ensures c.in-Some.file c.in-Some.is in
    let is : file_on c.args.name.now (opened items) ≡ Some bytes = sym (ap₂ file_on c.as_bytes.ensures.value c.in_ok-image.ensures.image.1) ∙ found_is in
    let P : List ℕ → Type 0 = λ b. SendsOutput (output_of [] None (Some b)) calls ended h k in
    record {
      stage = sent_stage (get_verdict c.args.name.now items) [] None (Some bytes) calls ended h k (get_does c.args.name.now items bytes (faultless items c.in_ok-image.ensures.image.0) is)
          (subst P c.as_slice.ensures.value c.send_file.ensures.sends);
    }

pub returns : goal.returns
returns g c =
    let items = c.args.bytes.items in
    let missing_is = file_missing (λ v. v.items) c.in_ok-file.field-0 c.as_bytes.result.now c.in_ok-image.image c.in_ok-file.ensures c.in-None.is in
    let is : file_on c.args.name.now (opened items) ≡ None = sym (ap₂ file_on c.as_bytes.ensures.value c.in_ok-image.ensures.image.1) ∙ missing_is in
    record {
      stage = refused_last (get_verdict c.args.name.now items) (naming Image c.args.out.now ∷ []) refusal.NoSuchFile (g.H.Host.view c.args.host.now)
          (get_missing c.args.name.now items (faultless items c.in_ok-image.ensures.image.0) is);
    }
