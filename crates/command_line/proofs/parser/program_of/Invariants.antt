-- The commands that are left are still to be told.
use Rattle.std.proofs.Common.{◌≡◌, drop, false, map}
use Rattle.clap.specs.Words.{app_of}
use Rattle.clap.specs.declared.builder.command.Command.TheViews.{out-Command}
use Rattle.command_line.specs.Names.{command_row}
use Rattle.command_line.specs.Parser.{program_app, with_commands}
use Rattle.command_line.proofs.parser.program_of.Given as goal

abbrev pub invariant-loop-row : goal.invariant-loop-row
invariant-loop-row l = record {
  told : with_commands (app_of l.parser.command) (map command_row (drop l.row-index l.rows)) ≡ with_commands (program_app l.fn.name) (map command_row l.rows);
  local : (out-Command l.parser.command).has_globals ≡ false;
}
