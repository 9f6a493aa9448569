-- A call that stays within a footprint keeps what holds of the state, if it keeps what holds of the tables and of the parts that it names.
use Rattle.std.proofs.Common.{◌≡◌, Bool, true, false, ◌||◌, refl}
use Rattle.std.proofs.lemmas.Bool.{or_parts}
use Rattle.xinu_model.specs.Footprints.{Footprint}
use Rattle.xinu_model.specs.Machine.{Xinu, Answer, Returns, Waits, Gone, Panics, Silent, CallResult, replies_of}
use Rattle.xinu_model.specs.Names.Calls.{names_of}
use Rattle.xinu_model.specs.Names.Sound.{AreSoundNames}
use Rattle.part_laws.specs.Preserve.{KeepsAll, MayCallAny}
use Rattle.table_laws.specs.Preserve.{AreAlive, FitsAnswer, IsPreserved}
use Rattle.xinu_model.specs.Sound.Tables.{IsInside}
use Rattle.xinu_model.specs.Sound.Pools.{ArePools}
use Rattle.xinu_model.specs.Sound.Ports.{ArePorts}
use Rattle.xinu_model.specs.Sound.State.{IsSound, IsWhole}
use Rattle.xinu_model.specs.Tables.{Tables}
use Rattle.xinu_laws.specs.Touches.{reach, Touches}
use Rattle.xinu_laws.proofs.Consoles.Kept.{HasConsole, HasSize}
use Rattle.xinu_laws.proofs.RawDisks.Framed.{disks_in, with_disks}
use Rattle.xinu_laws.proofs.RawDisks.Moves.{HasDisks}
use Rattle.xinu_laws.proofs.Touches.Kept.{keeps_pools, keeps_ports, keeps_console, keeps_disks, keeps_names, keeps_unused, keeps_heap, keeps_whole}
use Rattle.xinu_laws.proofs.Preserve.Unused.{AreUnusedAfter}
use Rattle.table_laws.proofs.Tables.Alive.{alive_callers}

-- a state in which a process calls is sound
pub sound_where_called : (s : Xinu) → MayCallAny s → IsSound s
sound_where_called s c = record { tables = c.may.tables; harts = c.may.harts; unused = c.unused; pools = c.pools; ports = c.ports; devices = c.devices; ram = c.ram }

-- however a call is answered its tables are as at each moment
inside_by_answer : (answer : Answer) (t : Tables) → FitsAnswer answer t → IsInside t
inside_by_answer (Returns value) t k = k.inside
inside_by_answer Panics t k = k.inside
inside_by_answer Silent t k = k.inside
inside_by_answer Waits t k = k
inside_by_answer Gone t k = k

pub inside_preserved : (h : CallResult) → IsPreserved h → IsInside h.call.state.tables
inside_preserved h k = inside_by_answer h.answer h.call.state.tables k.tables

-- the replies of a call go to processes that are alive
pub replies_alive : (h : CallResult) → IsPreserved h → AreAlive h.call.state.tables (replies_of h)
replies_alive h k = alive_callers h.answer h.call.state.tables h.call.released k.tables k.released

-- A call that stays within a footprint keeps all, if it keeps what holds of the tables and of the parts that the footprint names.
pub keeps_within : (f : Footprint) (s : Xinu) (h : CallResult) → MayCallAny s → Touches (reach f) s h.call.state → IsPreserved h
    → (f.pools ≡ true → ArePools h.call.state.tables h.call.state.parts.pools)
    → (f.ports ≡ true → ArePorts h.call.state.tables h.call.state.parts.ports) → (f.stacks ≡ true → AreUnusedAfter h)
    → (f.console ≡ true → HasConsole h.call.state) → (f.names ≡ true → AreSoundNames (names_of h.call.state))
    → (f.disk || f.files ≡ true → HasDisks h.call.state) → (f.ram ≡ true → HasSize h.call.state) → KeepsAll h
keeps_within f s h c t preserved pools ports unused console names disk ram = record {
  preserved = preserved;
  unused = by_stacks f.stacks refl;
  pools = by_pools f.pools refl;
  ports = by_ports f.ports refl;
  devices = with_disks (by_console f.console refl) (by_names f.names refl) (by_disk (f.disk || f.files) refl);
  ram = by_ram f.ram refl;
}
  where
    by_pools : (b : Bool) → f.pools ≡ b → ArePools h.call.state.tables h.call.state.parts.pools
    by_pools true e = pools e
    by_pools false e = keeps_pools e t c.pools

    by_stacks : (b : Bool) → f.stacks ≡ b → AreUnusedAfter h
    by_stacks true e = unused e
    by_stacks false e = keeps_unused (t.free e) c.unused

    by_ports : (b : Bool) → f.ports ≡ b → ArePorts h.call.state.tables h.call.state.parts.ports
    by_ports true e = ports e
    by_ports false e = keeps_ports e t (inside_preserved h preserved) c.ports

    by_console : (b : Bool) → f.console ≡ b → HasConsole h.call.state
    by_console true e = console e
    by_console false e = keeps_console e t (inside_preserved h preserved) c.devices.console

    by_names : (b : Bool) → f.names ≡ b → AreSoundNames (names_of h.call.state)
    by_names true e = names e
    by_names false e = keeps_names e t c.devices.names

    by_disk : (b : Bool) → f.disk || f.files ≡ b → HasDisks h.call.state
    by_disk true e = disk e
    by_disk false e =
        let parts = or_parts f.disk f.files e in
        keeps_disks parts.0 parts.1 t c.may.tables.inside (inside_preserved h preserved) (disks_in c.devices)

    by_ram : (b : Bool) → f.ram ≡ b → IsWhole h.call.state.memory h.call.state.parts.heap
    by_ram true e = record { bytes = ram e; heap = keeps_heap t.parts.extent c.ram.heap }
    by_ram false e = keeps_whole t e c.ram
