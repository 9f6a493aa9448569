use Rattle.std.proofs.Common.{◌≡◌, take}
use Rattle.process_core.proofs.equality.are_equal.Given as goal

abbrev pub invariant-loop-p : goal.invariant-loop-p
invariant-loop-p l = take l.p l.entries ≡ take l.p l.others
