-- The buffers that are left to be given back give the whole, and tables and pools stay sound.
use Rattle.std.proofs.Common.{◌≡◌, drop}
use Rattle.xinu_model.specs.Ports.Calls.{freed_buffers}
use Rattle.xinu_model.specs.Sound.Pools.{ArePools}
use Rattle.xinu_model.specs.Sound.Tables.{IsSoundTables}
use Rattle.reference_ports.proofs.pools.free_buffers.Given as goal

abbrev pub invariant-loop-a : goal.invariant-loop-a
invariant-loop-a l =
    IsSoundTables l.m.state.tables × ArePools l.m.state.tables l.m.state.parts.pools
    × (freed_buffers (drop l.a-index l.addresses) l.m ≡ freed_buffers l.addresses l.fn.m)
