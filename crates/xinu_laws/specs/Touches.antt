-- What it means that a call touches no more than its footprint allows.
use Rattle.std.specs.Prelude.{◌≡◌, ℕ, zero, suc, Bool, true, false, not, ◌&&◌, List, map, Option, Some, None, slice_index_or}
use Rattle.xinu_base.specs.declared.processes.Process.{Process}
use Rattle.xinu_base.specs.declared.processes.Rest.{Rest}
use Rattle.xinu_base.specs.declared.processes.Rest.TheVariants.{Nothing, Receive, Timed, SelfSuspend, GetBuf, PtSend, PtRecv, TtyGet, TtyPut, TtyRead, TtyWrite, Disk}
use Rattle.xinu_base.specs.declared.semaphores.Owner.{Owner}
use Rattle.xinu_base.specs.declared.semaphores.Owner.TheVariants as owner
use Rattle.xinu_model.specs.Devices.State.{Devices}
use Rattle.xinu_model.specs.Footprints.{Footprint, on_tables, on_buffers, on_ports, on_console}
use Rattle.part_laws.specs.FreeCells.{HasSameExtent}
use Rattle.table_laws.specs.Frame.{Frame, StillWait}
use Rattle.xinu_model.specs.Machine.{Parts, Xinu, no_hart}
use Rattle.xinu_model.specs.Pools.Buffers.{BufferPool, pool_bytes}
use Rattle.xinu_model.specs.Tables.{Tables, state_at, is_free}

-- which of the kernel's semaphores a footprint leaves alone: the console's two, that of the raw disk and that of the file system
abbrev pub spares_device : Footprint → ℕ → Bool
spares_device f zero = not f.console
spares_device f (suc zero) = not f.console
spares_device f (suc (suc zero)) = not f.disk
spares_device f (suc (suc (suc sem))) = not f.files

-- Whose semaphores a footprint leaves alone: a pool's, a port's and a device's unless it names pools, ports or the device.
abbrev pub spares : Footprint → ℕ → Option Owner → Bool
spares f sem (Some (owner.Pool i)) = not f.pools
spares f sem (Some (owner.Port q)) = not f.ports
spares f sem (Some owner.Device) = spares_device f sem
spares f sem (Some owner.Image) = false
spares f sem None = false

-- and the processes in which calls it leaves alone
abbrev pub spares_rest : Footprint → Rest → Bool
spares_rest f Nothing = false
spares_rest f Receive = false
spares_rest f Timed = false
spares_rest f SelfSuspend = false
spares_rest f (GetBuf i) = not f.pools
spares_rest f (PtSend ticket message) = not f.ports
spares_rest f (PtRecv ticket) = not f.ports
spares_rest f TtyGet = not f.console
spares_rest f (TtyRead part) = not f.console
spares_rest f (TtyPut b returned) = not f.console
spares_rest f (TtyWrite part returned) = not f.console
spares_rest f (Disk reply) = not f.disk && not f.files

-- How far a step reaches: the semaphores and the calls under way that it leaves alone, the parts that it may change, and whether the
-- clock may go on in it.
pub record Reach : Type 0 where
  pub mine : ℕ → Option Owner → Bool
  pub asks : Rest → Bool
  pub parts : Footprint
  pub clock : Bool

-- the reach of a call with this footprint: no call moves the clock
abbrev pub reach : Footprint → Reach
reach f = record { mine = spares f; asks = spares_rest f; parts = f; clock = false }

-- the reach of a tick: the tables and the clock
abbrev pub at_a_tick : Reach
at_a_tick = record (reach on_tables) { clock = true }

-- a process's stack: its highest word, and its bytes; and the stacks by process number
abbrev pub stack_of : Process → ℕ × ℕ
stack_of x = (x.stack, x.stack_size)

abbrev pub stacks_of : Tables → List (ℕ × ℕ)
stacks_of t = map stack_of t.processes

-- where a pool lies: its first address and its bytes
abbrev pub range_of : BufferPool → ℕ × ℕ
range_of pool = (pool.base, pool_bytes pool.size pool.number)

-- From d to e only the devices that the footprint names change.
pub record KeepsDevices (f : Footprint) (d e : Devices) : Type 0 where
  pub console : f.console ≡ false → e.console ≡ d.console
  pub names : f.names ≡ false → e.names ≡ d.names
  pub disk : f.disk ≡ false → e.disk ≡ d.disk
  pub files : f.files ≡ false → e.files ≡ d.files

-- From p to q only the parts that the footprint names change. The heap keeps its extent whatever it names.
pub record KeepsParts (f : Footprint) (p q : Parts) : Type 0 where
  pub extent : HasSameExtent p.heap q.heap
  pub heap : f.heap ≡ false → q.heap ≡ p.heap
  pub pools : f.pools ≡ false → q.pools ≡ p.pools
  pub ranges : f.ranges ≡ false → map range_of q.pools ≡ map range_of p.pools
  pub ports : f.ports ≡ false → (q.ports ≡ p.ports) × (q.next_port ≡ p.next_port)
  pub devices : KeepsDevices f p.devices q.devices

-- From s to u nobody dies: who is free was free, and has the registers that it had.
pub record KeepsFree (s u : Xinu) : Type 0 where
  pub was : (p : ℕ) → is_free (state_at u.tables p) ≡ true → is_free (state_at s.tables p) ≡ true
  pub harts : (p : ℕ) → is_free (state_at u.tables p) ≡ true → slice_index_or u.harts p no_hart ≡ slice_index_or s.harts p no_hart

-- From s to u nothing is touched beyond this reach. If it leaves stacks alone nobody dies; if it leaves the raw disk alone, all who wait in the
-- calls that it leaves alone still do; if it has no clock the ticks stay; and if it leaves RAM alone that stays as it is.
pub record Touches (f : Reach) (s u : Xinu) : Type 0 where
  pub frame : Frame f.mine f.asks s.tables u.tables
  pub stacks : f.parts.stacks ≡ false → stacks_of u.tables ≡ stacks_of s.tables
  pub parts : KeepsParts f.parts s.parts u.parts
  pub free : f.parts.stacks ≡ false → KeepsFree s u
  pub clock : f.clock ≡ false → u.tables.ticks ≡ s.tables.ticks
  pub stay : f.parts.disk ≡ false → StillWait f.asks s.tables u.tables
  pub ram : f.parts.ram ≡ false → u.memory ≡ s.memory

-- From s to u the heap, the ranges of the pools and the stacks stay as they are.
pub record KeepsPlaces (s u : Xinu) : Type 0 where
  pub heap : u.parts.heap ≡ s.parts.heap
  pub ranges : map range_of u.parts.pools ≡ map range_of s.parts.pools
  pub stacks : stacks_of u.tables ≡ stacks_of s.tables

-- the footprint of what is left of a call that waited
abbrev pub touched_by : Rest → Footprint
touched_by (GetBuf i) = on_buffers
touched_by (PtSend ticket message) = on_ports
touched_by (PtRecv ticket) = on_ports
touched_by TtyGet = on_console
touched_by (TtyRead part) = on_console
touched_by (TtyPut b returned) = on_console
touched_by (TtyWrite part returned) = on_console
touched_by _ = on_tables
