-- The options that are left are still to be told.
use Rattle.std.proofs.Common.{◌≡◌, drop, false, map}
use Rattle.clap.specs.Words.{app_of, new_app}
use Rattle.clap.specs.declared.builder.command.Command.TheViews.{out-Command}
use Rattle.command_line.specs.Names.{option_row}
use Rattle.command_line.proofs.Told.{with_options}
use Rattle.command_line.proofs.parser.command.Given as goal

abbrev pub invariant-loop-option : goal.invariant-loop-option
invariant-loop-option l = record {
  told : with_options (app_of l.parser.command) (map option_row (drop l.option-index l.fn.row.options.now)) ≡ with_options (new_app l.fn.row.name.now) (map option_row l.fn.row.options.now);
  local : (out-Command l.parser.command).has_globals ≡ false;
}
