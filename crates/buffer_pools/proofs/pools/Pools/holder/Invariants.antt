-- The pool is among those that are left to be looked at.
use Rattle.std.proofs.Common.{◌≡◌, drop}
use Rattle.xinu_model.specs.Pools.Buffers.{holder, holder_from}
use Rattle.buffer_pools.specs.Numbers.{made_pools}
use Rattle.buffer_pools.proofs.pools.Pools.holder.Given as goal

abbrev pub invariant-loop-k : goal.invariant-loop-k
invariant-loop-k l = holder l.a (made_pools l.self-inside) ≡ holder_from l.a l.k (drop l.k (made_pools l.self-inside))
