use Rattle.std.proofs.Common.{◌≤◌, ◌-◌, length}
use Rattle.buffer_pools.proofs.pools.places.Given as goal

abbrev pub invariant-loop-alloc : goal.invariant-loop-alloc
invariant-loop-alloc l = length l.pools.items ≤ 20

abbrev pub decreases-loop-alloc : goal.decreases-loop-alloc
decreases-loop-alloc l = 20 - length l.pools.items
