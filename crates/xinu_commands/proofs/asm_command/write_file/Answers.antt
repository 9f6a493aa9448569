use Rattle.std.proofs.Common.{[], ◌∷◌}
use Rattle.host_port.specs.Outside.{naming}
use Rattle.host_port.specs.declared.host.Channel.TheVariants.{Image}
use Rattle.xinu_commands.specs.AsmVerdict.{written_file}
use Rattle.xinu_commands.specs.Stages.{SendsOutput, output_on}
use Rattle.run_inputs.specs.declared.refusals.Refusal.TheVariants as refusal
use Rattle.xinu_commands.proofs.Assembled.{unwritten}
use Rattle.xinu_commands.proofs.Staged.{of_refused}
use Rattle.xinu_commands.proofs.asm_command.write_file.Goals as goal

pub returns-in_err-file : goal.returns-in_err-file
returns-in_err-file g c =
    let h = g.H.Host.view c.args.host.now in
    let calls = naming Image c.args.out.now ∷ [] in
    let output = output_on Image (written_file c.args.elf c.args.file.now) in
    record {
      sends = of_refused c.from_residual.result refusal.NoMemory
          (λ ended. SendsOutput output calls ended h h) c.from_residual.ensures.0 c.from_residual.ensures.1 (unwritten output calls h);
    }
