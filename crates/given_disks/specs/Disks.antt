-- The disks that a machine is given, by their bytes.
use Rattle.std.specs.Prelude.{ℕ, ◌/◌, List, length}
use Rattle.lfs_layout.specs.Images.{blocks_of}
use Rattle.file_laws.specs.StoredFiles.{stored_files}
use Rattle.xinu_model.specs.Boot.{Disks}
use Rattle.xinu_model.specs.RawDisk.Constants.{RD_BLKSIZ}

-- Of a raw disk its blocks, and of a clean disk of version 2 how many blocks it has and its files.
abbrev pub disks_of : List ℕ → List ℕ → Disks
disks_of disk0 disk1 =
    record { blocks = blocks_of disk0; size = length disk1 / RD_BLKSIZ; files = stored_files disk1 }
