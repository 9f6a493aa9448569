-- The pool is among those that are left to be looked at.
use Rattle.std.proofs.Common.{◌≡◌, drop}
use Rattle.xinu_model.specs.Pools.Buffers.{holder, holder_from}
use Rattle.reference_ports.proofs.buffers.holder.Given as goal

abbrev pub invariant-loop-i : goal.invariant-loop-i
invariant-loop-i l = holder l.a l.pools ≡ holder_from l.a l.i (drop l.i l.pools)
