use Rattle.std.proofs.Common.{◌≡◌, take}
use Rattle.buffer_pools.proofs.pools.are_equal.Given as goal

abbrev pub invariant-loop-k : goal.invariant-loop-k
invariant-loop-k l = take l.k l.pools ≡ take l.k l.others
