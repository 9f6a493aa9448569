-- The pools that are left to be looked at meet the range if all do.
use Rattle.std.proofs.Common.{◌≡◌, drop}
use Rattle.xinu_model.specs.Pools.Buffers.{meets_pool}
use Rattle.reference_ports.proofs.buffers.meets_pool.Given as goal

abbrev pub invariant-loop-pool : goal.invariant-loop-pool
invariant-loop-pool l = meets_pool l.base l.bytes l.pools ≡ meets_pool l.base l.bytes (drop l.pool-index l.pools)
