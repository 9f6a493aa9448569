use Rattle.std.proofs.Common.{◌≡◌, take}
use Rattle.tty_driver.proofs.rings.are_same.Given as goal

abbrev pub invariant-loop-k : goal.invariant-loop-k
invariant-loop-k l = take l.k l.ring.items ≡ take l.k l.other.items
