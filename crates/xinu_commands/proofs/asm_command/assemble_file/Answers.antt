use Rattle.std.proofs.Common.{List, ℕ, [], ◌∷◌, None, subst}
use Rattle.command_line.specs.Names.{asm_names}
use Rattle.command_line.specs.Commands.{Asm}
use Rattle.host_port.specs.Outside.{naming}
use Rattle.host_port.specs.declared.host.Channel.TheVariants.{Image}
use Rattle.std.specs.Prelude.{Some}
use Rattle.xinu_commands.specs.AsmVerdict.{asm_verdict}
use Rattle.run_inputs.specs.Fetching.{refusal_of}
use Rattle.xinu_commands.specs.Stages.{Performs, Stage, no_fetches}
use Rattle.xinu_commands.proofs.Assembled.{source_fetched, source_unfetched}
use Rattle.xinu_commands.proofs.Staged.{of_refused}
use Rattle.xinu_commands.proofs.asm_command.assemble_file.Goals as goal

pub returns-in_err-source : goal.returns-in_err-source
returns-in_err-source g c =
    let h = g.H.Host.view c.args.host.now in
    let k = g.H.Host.view c.fetch_file.new.host in
    let r = c.in_err-source.field-0.0 in
    let files = asm_names c.args.files.now in
    record {
      performs = of_refused c.from_residual.result r
          (λ ended. Performs (Some (Asm files)) ended None h k) c.from_residual.ensures.0 c.from_residual.ensures.1
          (source_unfetched files r h k c.in_err-source.ensures.fetches);
    }

pub returns : goal.returns
returns g c =
    let j = g.H.Host.view c.fetch_file.new.host in
    let k = g.H.Host.view c.assemble_text.new.host in
    let files = asm_names c.args.files.now in
    let ended = refusal_of c.assemble_text.result in
    let P : List ℕ → Type 0 = λ b. Stage (asm_verdict files.elf b) no_fetches (naming Image files.out ∷ []) ended None j k in
    record {
      performs = source_fetched files c.in_ok-source.source.items ended
          (g.H.Host.view c.args.host.now) j k c.in_ok-source.ensures.bytes c.in_ok-source.ensures.fetches
          (subst P c.as_slice.ensures.value c.assemble_text.ensures.stage);
    }
