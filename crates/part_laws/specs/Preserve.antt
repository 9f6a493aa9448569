-- What holds of the whole state inside an event: when a process calls, and before the event of its call is closed.
use Rattle.table_laws.specs.Preserve.{IsPreserved, MayCall}
use Rattle.std.specs.Prelude.{false}
use Rattle.xinu_model.specs.Clock.{quantum_falls, wakeup, a_tick_later}
use Rattle.xinu_model.specs.Machine.{Xinu, Silent, CallResult}
use Rattle.xinu_model.specs.Sound.Devices.{AreDevices}
use Rattle.xinu_model.specs.Sound.Pools.{ArePools}
use Rattle.xinu_model.specs.Sound.Ports.{ArePorts}
use Rattle.xinu_model.specs.Sound.State.{AreUnused, IsWhole}

-- What each call keeps: what holds of tables and registers, of free numbers, of the pools, of the ports, of the devices and of RAM.
pub record KeepsAll (result : CallResult) : Type 0 where
  pub preserved : IsPreserved result
  pub unused : AreUnused result.call.state.tables result.call.state.harts
  pub pools : ArePools result.call.state.tables result.call.state.parts.pools
  pub ports : ArePorts result.call.state.tables result.call.state.parts.ports
  pub devices : AreDevices result.call.state.tables result.call.state.parts.devices
  pub ram : IsWhole result.call.state.memory result.call.state.parts.heap

-- What holds of the whole state then.
pub record MayCallAny (s : Xinu) : Type 0 where
  pub may : MayCall s
  pub unused : AreUnused s.tables s.harts
  pub pools : ArePools s.tables s.parts.pools
  pub ports : ArePorts s.tables s.parts.ports
  pub devices : AreDevices s.tables s.parts.devices
  pub ram : IsWhole s.memory s.parts.heap

-- What is under way at the end of a tick, once it has done its own rescheds.
abbrev pub ticking : Xinu → CallResult
ticking s =
    let d = wakeup s in
    record {
      call = record { state = record d.state { tables = quantum_falls (a_tick_later d.owes_resched d.state.tables) }; released = d.released; owes_resched = false };
      answer = Silent;
    }
