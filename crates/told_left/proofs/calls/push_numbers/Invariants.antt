-- The numbers so far are appended.
use Rattle.std.proofs.Common.{◌≡◌, ◌++◌, drop}
use Rattle.told_left.specs.Calls.{after_blanks}
use Rattle.told_left.proofs.calls.push_numbers.Given as goal

abbrev pub invariant-loop-number : goal.invariant-loop-number
invariant-loop-number l = l.told.items ++ after_blanks (drop l.number-index l.numbers) ≡ l.initial.told.items ++ after_blanks l.numbers
