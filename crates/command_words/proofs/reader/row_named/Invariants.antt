-- The row is among those that are left.
use Rattle.std.proofs.Common.{◌≡◌, map, drop}
use Rattle.command_line.specs.Reading.{row_named}
use Rattle.command_words.specs.ToolNames.{value_row}
use Rattle.command_words.specs.Tools.{option_of}
use Rattle.command_words.proofs.reader.row_named.Given as goal

abbrev pub invariant-loop-row : goal.invariant-loop-row
invariant-loop-row l = row_named (map option_of (map value_row (drop l.row-index l.rows))) l.fn.name ≡ row_named (map option_of (map value_row l.rows)) l.fn.name
