-- None of the last places can move.
use Rattle.std.proofs.Common.{◌≡◌, ◌≤◌, [], length, drop}
use Rattle.preemptions.specs.Placements.{later}
use Rattle.preemptions.proofs.next.last_that_moves.Given as goal

abbrev pub invariant-loop-end : goal.invariant-loop-end
invariant-loop-end l = record {
  inside : l.end ≤ length l.places;
  full : later l.within (drop l.end l.places) ≡ [];
}

abbrev pub decreases-loop-end : goal.decreases-loop-end
decreases-loop-end l = l.end
