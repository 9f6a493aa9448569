-- A call touches no more than its footprint: how this is put together from the steps of which a call is made.
-- The folder has a lemma for each move and each call, the list of all calls, and what follows for the parts that a footprint doesn't name.
pub mod Boot
pub mod Clock
pub mod Consoles
pub mod Continued
pub mod Disks
pub mod Events
pub mod Few
pub mod Kept
pub mod Memory
pub mod Messages
pub mod Moves
pub mod Pools
pub mod Ports
pub mod Processes
pub mod Semaphores
pub mod Table
use Rattle.std.proofs.Common.{◌≡◌, ℕ, Bool, true, false, cond, List, map, refl, sym, ap, subst, slice_index_or, ◌∙◌}
use Rattle.std.proofs.lemmas.Bool.{false≢true, cond_both}
use Rattle.xinu_base.specs.declared.registers.Hart.{Hart}
use Rattle.xinu_model.specs.Console.State.{Console}
use Rattle.xinu_model.specs.Devices.State.{Devices}
use Rattle.xinu_model.specs.Files.Work.{FileWork}
use Rattle.xinu_model.specs.Footprints.{Footprint}
use Rattle.table_laws.specs.Frame.{Frame, StillWait, waits_at}
use Rattle.xinu_model.specs.Heap.Cells.{Heap}
use Rattle.xinu_model.specs.Machine.{Parts, Xinu, CallResult, no_hart, refused}
use Rattle.xinu_model.specs.Names.Mounting.{NameRow}
use Rattle.xinu_model.specs.Pools.Buffers.{BufferPool}
use Rattle.xinu_model.specs.RawDisk.Requests.{RawDisk}
use Rattle.xinu_model.specs.Ports.Queues.{MessagePort}
use Rattle.xinu_model.specs.Sound.State.{IsSound}
use Rattle.xinu_model.specs.Tables.{Tables, state_at, is_free}
use Rattle.xinu_laws.specs.Touches.{Reach, reach, stacks_of, range_of, KeepsDevices, KeepsFree, KeepsParts, Touches}
use Rattle.part_laws.specs.FreeCells.{HasSameExtent}
use Rattle.table_laws.proofs.Frame.{frame_same, frame_refl, frame_trans}

-- Nobody dies if tables and registers stay,
keeps_free_same : (s u : Xinu) → u.tables ≡ s.tables → u.harts ≡ s.harts → KeepsFree s u
keeps_free_same s u e same = record {
  was = λ p h. subst (λ (t : Tables). is_free (state_at t p) ≡ true) e h;
  harts = λ p h. ap (λ (l : List Hart). slice_index_or l p no_hart) same;
}

-- and in one step after another.
pub keeps_free_trans : {s u v : Xinu} → KeepsFree s u → KeepsFree u v → KeepsFree s v
keeps_free_trans a b = record { was = λ p h. a.was p (b.was p h); harts = λ p h. b.harts p h ∙ a.harts p (b.was p h) }

-- What a call does stays within a footprint.
abbrev pub StaysIn : Footprint → (Xinu → CallResult) → Type 0
StaysIn f effect = (s : Xinu) → IsSound s → Touches (reach f) s (effect s).call.state

-- what is named isn't kept
pub named : {b : Bool} {P : Type 0} → b ≡ true → b ≡ false → P
named may e = absurd (false≢true (sym e ∙ may))

module _ {f : Footprint} where
  -- No device changes.
  pub devices_same : (d : Devices) → KeepsDevices f d d
  devices_same d = record { console = λ _. refl; names = λ _. refl; disk = λ _. refl; files = λ _. refl }

  -- No part changes.
  pub parts_same : (p : Parts) → KeepsParts f p p
  parts_same p = record { extent = record { low = refl; many = refl }; heap = λ _. refl; pools = λ _. refl; ranges = λ _. refl; ports = λ _. (refl, refl); devices = devices_same p.devices }

  -- One change after another.
  pub parts_trans : {p q r : Parts} → KeepsParts f p q → KeepsParts f q r → KeepsParts f p r
  parts_trans a b = record {
    extent = record { low = b.extent.low ∙ a.extent.low; many = b.extent.many ∙ a.extent.many };
    heap = λ e. b.heap e ∙ a.heap e;
    pools = λ e. b.pools e ∙ a.pools e;
    ranges = λ e. b.ranges e ∙ a.ranges e;
    ports = λ e. ((b.ports e).0 ∙ (a.ports e).0, (b.ports e).1 ∙ (a.ports e).1);
    devices = record {
      console = λ e. b.devices.console e ∙ a.devices.console e;
      names = λ e. b.devices.names e ∙ a.devices.names e;
      disk = λ e. b.devices.disk e ∙ a.devices.disk e;
      files = λ e. b.devices.files e ∙ a.devices.files e;
    };
  }

  -- Another heap of the same extent.
  pub parts_heap : f.heap ≡ true → (p : Parts) (h : Heap) → HasSameExtent p.heap h → KeepsParts f p (record p { heap = h })
  parts_heap may p h e = record { extent = e; heap = named may; pools = λ _. refl; ranges = λ _. refl; ports = λ _. (refl, refl); devices = devices_same p.devices }

  -- Other pools in the same ranges.
  pub parts_pools : f.pools ≡ true → (p : Parts) (pools : List BufferPool) → map range_of pools ≡ map range_of p.pools
      → KeepsParts f p (record p { pools = pools })
  parts_pools may p pools e = record { extent = record { low = refl; many = refl }; heap = λ _. refl; pools = named may; ranges = λ _. e; ports = λ _. (refl, refl); devices = devices_same p.devices }

  -- Another heap of the same extent, and one more pool.
  pub parts_new_pool : f.heap ≡ true → f.pools ≡ true → f.ranges ≡ true → (p : Parts) (h : Heap) (pools : List BufferPool)
      → HasSameExtent p.heap h → KeepsParts f p (record p { heap = h; pools = pools })
  parts_new_pool heap pools ranges p h l e = record { extent = e; heap = named heap; pools = named pools; ranges = named ranges; ports = λ _. (refl, refl); devices = devices_same p.devices }

  -- Another console.
  pub parts_console : f.console ≡ true → (p : Parts) (c : Console)
      → KeepsParts f p (record p { devices = record p.devices { console = c } })
  parts_console may p c = record {
    extent = record { low = refl; many = refl };
    heap = λ _. refl;
    pools = λ _. refl;
    ranges = λ _. refl;
    ports = λ _. (refl, refl);
    devices = record { console = named may; names = λ _. refl; disk = λ _. refl; files = λ _. refl };
  }

  -- Another raw disk.
  pub parts_disk : f.disk ≡ true → (p : Parts) (d : RawDisk) → KeepsParts f p (record p { devices = record p.devices { disk = d } })
  parts_disk may p d = record {
    extent = record { low = refl; many = refl };
    heap = λ _. refl;
    pools = λ _. refl;
    ranges = λ _. refl;
    ports = λ _. (refl, refl);
    devices = record { console = λ _. refl; names = λ _. refl; disk = named may; files = λ _. refl };
  }

  -- Other files, or other calls on them.
  pub parts_files : f.files ≡ true → (p : Parts) (w : FileWork) → KeepsParts f p (record p { devices = record p.devices { files = w } })
  parts_files may p w = record {
    extent = record { low = refl; many = refl };
    heap = λ _. refl;
    pools = λ _. refl;
    ranges = λ _. refl;
    ports = λ _. (refl, refl);
    devices = record { console = λ _. refl; names = λ _. refl; disk = λ _. refl; files = named may };
  }

  -- Another heap of the same extent, and other disks.
  pub parts_death : f.heap ≡ true → f.disk ≡ true → f.files ≡ true → (p : Parts) (h : Heap) (d : Devices) → HasSameExtent p.heap h
      → d.console ≡ p.devices.console → d.names ≡ p.devices.names → KeepsParts f p (record p { heap = h; devices = d })
  parts_death heap disk files p h d e console names = record {
    extent = e;
    heap = named heap;
    pools = λ _. refl;
    ranges = λ _. refl;
    ports = λ _. (refl, refl);
    devices = record { console = λ _. console; names = λ _. names; disk = named disk; files = named files };
  }

  -- Other mounted prefixes.
  pub parts_names : f.names ≡ true → (p : Parts) (rows : List NameRow)
      → KeepsParts f p (record p { devices = record p.devices { names = rows } })
  parts_names may p rows = record {
    extent = record { low = refl; many = refl };
    heap = λ _. refl;
    pools = λ _. refl;
    ranges = λ _. refl;
    ports = λ _. (refl, refl);
    devices = record { console = λ _. refl; names = named may; disk = λ _. refl; files = λ _. refl };
  }

  -- Other ports.
  pub parts_ports : f.ports ≡ true → (p : Parts) (ports : List MessagePort) (next : ℕ)
      → KeepsParts f p (record p { ports = ports; next_port = next })
  parts_ports may p ports next = record { extent = record { low = refl; many = refl }; heap = λ _. refl; pools = λ _. refl; ranges = λ _. refl; ports = named may; devices = devices_same p.devices }

module _ {f : Reach} where
  -- Other tables with the same stacks.
  pub touches_tables : (s : Xinu) (t : Tables) → Frame f.mine f.asks s.tables t → stacks_of t ≡ stacks_of s.tables
      → ((p : ℕ) → is_free (state_at t p) ≡ true → is_free (state_at s.tables p) ≡ true) → (f.clock ≡ false → t.ticks ≡ s.tables.ticks)
      → StillWait f.asks s.tables t → Touches f s (record s { tables = t })
  touches_tables s t c e was clock stay = record { frame = c; stacks = λ _. e; parts = parts_same s.parts; free = λ _. record { was = was; harts = λ p _. refl }; clock = clock; stay = λ _. stay; ram = λ _. refl }

  -- Nothing is touched.
  pub touches_refl : (s : Xinu) → Touches f s s
  touches_refl s = touches_tables s s.tables (frame_refl s.tables) refl (λ p h. h) (λ _. refl) (record { stay = λ p h. h })

  -- Other parts of the state, and other bytes in RAM if the reach allows it.
  pub touches_parts : (s u : Xinu) → u.tables ≡ s.tables → u.harts ≡ s.harts → (f.parts.ram ≡ false → u.memory ≡ s.memory)
      → KeepsParts f.parts s.parts u.parts → Touches f s u
  touches_parts s u e same ram k = record { frame = frame_same s.tables u.tables (ap (λ (t : Tables). t.processes) e) (ap (λ (t : Tables). t.semaphores) e); stacks = λ _. ap stacks_of e; parts = k; free = λ _. keeps_free_same s u e same; clock = λ _. ap (λ (t : Tables). t.ticks) e; stay = λ _. record { stay = λ p h. subst (λ (t : Tables). waits_at f.asks t p ≡ true) (sym e) h }; ram = ram }

  -- One step after another.
  pub touches_trans : {s u v : Xinu} → Touches f s u → Touches f u v → Touches f s v
  touches_trans {s} {u} {v} a b = record {
    frame = frame_trans s.tables u.tables v.tables a.frame b.frame;
    stacks = λ e. b.stacks e ∙ a.stacks e;
    parts = parts_trans a.parts b.parts;
    free = λ e. keeps_free_trans (a.free e) (b.free e);
    clock = λ e. b.clock e ∙ a.clock e;
    stay = λ e. record { stay = λ p h. (b.stay e).stay p ((a.stay e).stay p h) };
    ram = λ e. b.ram e ∙ a.ram e;
  }

  -- One of two ways is gone.
  pub touches_either : (s : Xinu) (b : Bool) (x y : CallResult) → (b ≡ true → Touches f s x.call.state)
      → (b ≡ false → Touches f s y.call.state) → Touches f s (cond b x y).call.state
  touches_either s b x y g h = cond_both b x y (λ (k : CallResult). Touches f s k.call.state) g h

  -- A call that is refused unless a test holds.
  pub touches_if : (s : Xinu) (b : Bool) (x : CallResult) → (b ≡ true → Touches f s x.call.state)
      → Touches f s (cond b x (refused s)).call.state
  touches_if s b x g = touches_either s b x (refused s) g (λ _. touches_refl s)
