-- The numbers so far.
use Rattle.std.proofs.Common.{◌≡◌, ◌+◌, ◌++◌, length, take}
use Rattle.std.specs.List.{range_with_len}
use Rattle.preemptions.proofs.next.fill.Given as goal

abbrev pub invariant-loop-i : goal.invariant-loop-i
invariant-loop-i l = record {
  size : length l.places ≡ length l.initial.places;
  filled : take (l.from + l.i) l.places ≡ take l.from l.initial.places ++ range_with_len l.first l.i;
}
