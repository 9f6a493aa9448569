use Rattle.std.proofs.Common.{◌∙◌, [], ◌∷◌, ℕ, List, Some, None, subst}
use Rattle.command_line.specs.Commands.{Disk}
use Rattle.command_line.specs.DiskArgs.{Mkfs}
use Rattle.host_port.specs.Outside.{naming}
use Rattle.host_port.specs.declared.host.Channel.TheVariants.{Disk1}
use Rattle.lfs_layout.specs.Made.{image_with}
use Rattle.xinu_commands.specs.DiskVerdict.{mkfs_verdict}
use Rattle.run_inputs.specs.Fetching.{refusal_of}
use Rattle.xinu_commands.specs.Stages.{Performs, SendsOutput, no_fetches}
use Rattle.xinu_commands.specs.Work.{output_of}
use Rattle.run_inputs.specs.declared.refusals.Refusal.TheVariants as refusal
use Rattle.xinu_commands.proofs.DiskVerdicts.{mkfs_does}
use Rattle.xinu_commands.proofs.Staged.{memory_stage, of_refused, performs_by, sent_stage}
use Rattle.xinu_commands.proofs.disk.make.Goals as goal

pub returns-in_err-image : goal.returns-in_err-image
returns-in_err-image g c =
    let h = g.H.Host.view c.args.host.now in
    let action = Mkfs c.args.blocks c.args.out.now in
    record {
      performs = of_refused c.from_residual.result refusal.NoMemory (λ ended. Performs (Some (Disk action)) ended None h h) c.from_residual.ensures.0 c.from_residual.ensures.1
          (performs_by action [] [] (Some refusal.NoMemory) h h (memory_stage (mkfs_verdict c.args.blocks) no_fetches (naming Disk1 c.args.out.now ∷ []) h));
    }

pub returns : goal.returns
returns g c =
    let h = g.H.Host.view c.args.host.now in
    let k = g.H.Host.view c.send_file.new.host in
    let ended = refusal_of c.send_file.result in
    let calls = naming Disk1 c.args.out.now ∷ [] in
    let P : List ℕ → Type 0 = λ b. SendsOutput (output_of [] (Some b) None) calls ended h k in
    let sends = subst P (c.bytes.ensures.bytes ∙ c.in_ok-image.ensures.image) c.send_file.ensures.sends in
    record {
      performs = performs_by (Mkfs c.args.blocks c.args.out.now) [] [] ended h k
          (sent_stage (mkfs_verdict c.args.blocks) [] (Some (image_with c.args.blocks [])) None calls ended h k (mkfs_does c.args.blocks) sends);
    }
