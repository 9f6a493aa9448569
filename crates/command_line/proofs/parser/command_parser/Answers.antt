-- The rows of the table are those of the definition.
use Rattle.std.proofs.Common.{◌∙◌, ap, codes}
use Rattle.std.proofs.lemmas.Result.{IfOk-weaker}
use Rattle.command_line.specs.Parser.{program_app, with_commands}
use Rattle.command_line.proofs.parser.command_parser.Goals as goal

pub returns : goal.returns
returns c = record {
  told = IfOk-weaker c.program_of.result _ _ (λ p e. e ∙ ap (with_commands (program_app (codes "xinu_run"))) c.commands-rows.ensures.rows) c.program_of.ensures.told;
}
