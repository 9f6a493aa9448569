-- The pools that are left to be looked at meet the range if all do.
use Rattle.std.proofs.Common.{◌≡◌, drop}
use Rattle.xinu_model.specs.Pools.Buffers.{meets_pool}
use Rattle.buffer_pools.specs.Numbers.{made_pools}
use Rattle.buffer_pools.proofs.pools.Pools.meets.Given as goal

abbrev pub invariant-loop-k : goal.invariant-loop-k
invariant-loop-k l =
    meets_pool l.base l.bytes (made_pools l.self-inside) ≡ meets_pool l.base l.bytes (drop l.k (made_pools l.self-inside))
