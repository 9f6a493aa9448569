-- No choice of an option before these is at fault.
use Rattle.std.proofs.Common.{◌≡◌, map, drop}
use Rattle.command_words.specs.ToolNames.{taken_words, value_row}
use Rattle.command_words.specs.Words.{needs_fault}
use Rattle.command_words.proofs.words.needs_fault.Given as goal

abbrev pub invariant-loop-row : goal.invariant-loop-row
invariant-loop-row l = needs_fault (taken_words l.fn.taken) (map value_row (drop l.row-index l.rows)) ≡ needs_fault (taken_words l.fn.taken) (map value_row l.rows)
