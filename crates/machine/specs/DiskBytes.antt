-- The bytes of a machine's disks.
use Rattle.std.specs.Prelude.{ℕ, zero, suc, List}
use Rattle.std.specs.List.{concat}
use Rattle.machine.specs.Printed.{Booted}
use Rattle.xinu_model.specs.Machine.{Xinu}

-- the bytes of the raw disk of a state: its blocks, one after another
abbrev pub raw_bytes : Xinu → List ℕ
raw_bytes s = concat s.parts.devices.disk.blocks

-- the bytes of disk 0 are the raw disk's, and those of disk 1 the ones of the disk with files
abbrev pub disk_bytes : ℕ → Xinu → List ℕ → List ℕ
disk_bytes zero s image = raw_bytes s
disk_bytes (suc n) s image = image

abbrev pub bytes_of : ℕ → Booted → List ℕ
bytes_of n m = disk_bytes n m.state m.image
