-- One more command was told.
use Rattle.std.proofs.Common.{ap, map}
use Rattle.command_line.specs.Names.{command_row}
use Rattle.command_line.specs.Parser.{with_commands}
use Rattle.command_line.proofs.Told.{next_command}
use Rattle.command_line.proofs.parser.program_of.Goals as goal

pub loop-row-init : goal.loop-row-init
loop-row-init c = record {
  told = ap (λ a. with_commands a (map command_row c.args.rows.now)) c.program-parser.ensures.told;
  local = c.program-parser.ensures.local;
}

pub loop-row-preserved : goal.loop-row-preserved
loop-row-preserved c = record {
  told = next_command c.args.rows.now c.loop-row.row-index _ _ _ _ _ c.loop-row-test.true c.in_ok-parser.ensures.told c.in_ok-command.ensures.told c.loop-row.invariant.told;
  local = c.in_ok-parser.ensures.local;
}
