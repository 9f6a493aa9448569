-- No value of an option before these is at fault.
use Rattle.std.proofs.Common.{◌≡◌, map, drop}
use Rattle.command_words.specs.ToolNames.{taken_words, value_row}
use Rattle.command_words.specs.Words.{values_fault}
use Rattle.command_words.proofs.words.values_fault.Given as goal

abbrev pub invariant-loop-row : goal.invariant-loop-row
invariant-loop-row l = values_fault (taken_words l.fn.taken) (map value_row (drop l.row-index l.rows)) ≡ values_fault (taken_words l.fn.taken) (map value_row l.rows)
