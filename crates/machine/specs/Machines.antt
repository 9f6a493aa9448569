-- What a machine stands for, and what holds of it between any two events.
use Rattle.std.specs.Prelude.{◌≡◌, ◌≤◌, false, ℕ}
use Rattle.given_disks.specs.HeldFiles.{HoldsFiles}
use Rattle.kernel_state.specs.Results.{IsIdle}
use Rattle.machine.specs.Printed.{Booted}
use Rattle.machine.specs.declared.machine.Machine.TheInside.{Inside}
use Rattle.xinu_model.specs.Ports.Queues.{port_at}
use Rattle.xinu_model.specs.Runs.{is_over}
use Rattle.xinu_model.specs.Sound.State.{IsSound}

-- its state, the bytes of the disk with files, the number of events taken, and whether one of them ended the run
abbrev pub booted_of : Inside → Booted
booted_of m = record { state = m.kernel.came.call.state; image = m.kernel.image; events = m.events; over = m.has_ended }

-- No event is under way, the state is sound, and the disk holds its files. Unless an event ended the run a process lives besides the null process. Each event is at
-- most one tick and raises the number of a port by at most one, and at most 10^9 were taken.
pub record IsMachine (m : Inside) : Type 0 where
  pub idle : IsIdle m.kernel.came
  pub sound : IsSound m.kernel.came.call.state
  pub holds : HoldsFiles m.kernel.image m.kernel.came.call.state.parts.devices.files
  pub lives : m.has_ended ≡ false → is_over m.kernel.came.call.state ≡ false
  pub ticks : m.kernel.came.call.state.tables.ticks ≤ m.events
  pub numbers : (q : ℕ) → (port_at m.kernel.came.call.state.parts.ports q).seq ≤ m.events
  pub few : m.events ≤ 1000000000
