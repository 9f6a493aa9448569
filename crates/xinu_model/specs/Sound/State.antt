-- What holds of the whole state between two events.
use Rattle.std.specs.Prelude.{◌≡◌, ℕ, ◌+◌, ◌*◌, ◌≤◌, true, List, length, slice_index, slice_index_or}
use Rattle.xinu_base.specs.Constants.{NPROC}
use Rattle.xinu_base.specs.declared.registers.Hart.{Hart}
use Rattle.xinu_model.specs.Heap.Cells.{Heap}
use Rattle.xinu_model.specs.Machine.{Xinu, no_hart}
use Rattle.xinu_model.specs.Memory.{ram_size}
use Rattle.xinu_model.specs.Sound.Tables.{IsSoundTables}
use Rattle.xinu_model.specs.Sound.Devices.{AreDevices}
use Rattle.xinu_model.specs.Sound.Pools.{ArePools}
use Rattle.xinu_model.specs.Sound.Ports.{ArePorts}
use Rattle.xinu_model.specs.Tables.{Tables, state_at, is_free}

-- There are registers for each process number, and x0 is 0 in each.
pub record AreHarts (harts : List Hart) : Type 0 where
  pub many : length harts ≡ NPROC
  pub zero : (p : ℕ) → slice_index (slice_index_or harts p no_hart).regs 0 ≡ 0

-- A free number has the registers that it had at the start.
abbrev pub AreUnused : Tables → List Hart → Type 0
AreUnused t harts = (p : ℕ) → is_free (state_at t p) ≡ true → slice_index_or harts p no_hart ≡ no_hart

-- RAM has all its bytes, and the heap lies in it.
pub record IsWhole (memory : List ℕ) (h : Heap) : Type 0 where
  pub bytes : length memory ≡ ram_size
  pub heap : h.low + 8 * length h.cells ≤ ram_size

-- Between two events the tables are sound, and so are the registers, the pools, the ports and the devices; and RAM is whole.
pub record IsSound (s : Xinu) : Type 0 where
  pub tables : IsSoundTables s.tables
  pub harts : AreHarts s.harts
  pub unused : AreUnused s.tables s.harts
  pub pools : ArePools s.tables s.parts.pools
  pub ports : ArePorts s.tables s.parts.ports
  pub devices : AreDevices s.tables s.parts.devices
  pub ram : IsWhole s.memory s.parts.heap
