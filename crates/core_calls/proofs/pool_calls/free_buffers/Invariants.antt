-- The buffers that are left to be given back give the whole, what holds of tables and pools holds on, and the disk with files is as it was.
use Rattle.std.proofs.Common.{◌≡◌, drop}
use Rattle.xinu_model.specs.Ports.Calls.{freed_buffers}
use Rattle.xinu_model.specs.Sound.Pools.{ArePools}
use Rattle.xinu_model.specs.Sound.Tables.{IsSoundTables}
use Rattle.core_calls.proofs.pool_calls.free_buffers.Given as goal

abbrev pub invariant-loop-a : goal.invariant-loop-a
invariant-loop-a l =
    IsSoundTables l.k.call.state.tables × ArePools l.k.call.state.tables l.k.call.state.parts.pools
    × (freed_buffers (drop l.a-index l.addresses) l.k.call ≡ freed_buffers l.addresses l.initial.k.call) × (l.k.image ≡ l.initial.k.image)
