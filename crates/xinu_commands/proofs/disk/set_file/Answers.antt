use Rattle.std.proofs.Common.{◌≡◌, [], ◌∷◌, ℕ, List, Some, None, subst}
use Rattle.host_port.specs.Outside.{naming}
use Rattle.host_port.specs.declared.host.Channel.TheVariants.{Disk1}
use Rattle.xinu_commands.specs.DiskVerdict.{set_verdict}
use Rattle.run_inputs.specs.Fetching.{refusal_of}
use Rattle.xinu_commands.specs.Stages.{SendsOutput, Stage, no_fetches}
use Rattle.xinu_commands.specs.Work.{Refuses, Does, Outputs, output_of}
use Rattle.run_inputs.specs.declared.refusals.Refusal.TheVariants as refusal
use Rattle.xinu_commands.proofs.DiskVerdicts.{set_made, set_unmade}
use Rattle.xinu_commands.proofs.Staged.{memory_stage, of_refused, refused_last, sent_stage}
use Rattle.xinu_commands.proofs.disk.set_file.Goals as goal

pub returns-in_err-put_file : goal.returns-in_err-put_file
returns-in_err-put_file g c =
    let h = g.H.Host.view c.args.host.now in
    let calls = naming Disk1 c.args.out.now ∷ [] in
    let v = set_verdict c.args.name.now c.args.source.now c.args.disk in
    record {
      stage = of_refused c.from_residual.result refusal.NoMemory (λ ended. Stage v no_fetches calls ended None h h) c.from_residual.ensures.0 c.from_residual.ensures.1 (memory_stage v no_fetches calls h);
    }

pub returns-then-branch : goal.returns-then-branch
returns-then-branch g c =
    let h = g.H.Host.view c.args.host.now in
    let k = g.H.Host.view c.send_file.new.host in
    let ended = refusal_of c.send_file.result in
    let calls = naming Disk1 c.args.out.now ∷ [] in
    let made = c.put_file.new.self in
    let P : List ℕ → Type 0 = λ n. set_verdict n c.args.source.now c.args.disk ≡ Does (Outputs [] (Some made) None) in
    let does = subst P c.as_bytes.ensures.value (set_made c.as_bytes.result.now c.args.source.now c.args.disk made c.in_ok-put_file.field-0 c.in_ok-put_file.ensures c.if-branch.true) in
    let Q : List ℕ → Type 0 = λ b. SendsOutput (output_of [] (Some b) None) calls ended h k in
    record {
      stage = sent_stage (set_verdict c.args.name.now c.args.source.now c.args.disk) [] (Some made) None calls ended h k does (subst Q c.bytes.ensures.bytes c.send_file.ensures.sends);
    }

pub returns : goal.returns
returns g c =
    let made = c.put_file.new.self in
    let P : List ℕ → Type 0 = λ n. set_verdict n c.args.source.now c.args.disk ≡ Refuses refusal.DoesNotFit in
    record {
      stage = refused_last (set_verdict c.args.name.now c.args.source.now c.args.disk) (naming Disk1 c.args.out.now ∷ []) refusal.DoesNotFit (g.H.Host.view c.args.host.now)
          (subst P c.as_bytes.ensures.value (set_unmade c.as_bytes.result.now c.args.source.now c.args.disk made c.in_ok-put_file.field-0 c.in_ok-put_file.ensures c.if-branch.false));
    }
