-- What is left has the number if the whole does.
use Rattle.std.proofs.Common.{◌≡◌, drop}
use Rattle.xinu_model.specs.Pools.Buffers.{is_in}
use Rattle.reference_boot.proofs.dump.pools.is_in.Given as goal

abbrev pub invariant-loop-b : goal.invariant-loop-b
invariant-loop-b l = is_in l.a (drop l.b-index l.list) ≡ is_in l.a l.list
