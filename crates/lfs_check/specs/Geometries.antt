-- Where the parts of a disk are, in both versions.
use Rattle.std.specs.Prelude.{ℕ, ◌+◌, ◌-◌, ◌*◌, ◌/◌, ◌≤◌, Bool, cond, nat_eq}
use Rattle.lfs_check.specs.declared.geometry.Geometry.{Geometry}

-- a disk whose directory is one block has version 1
abbrev pub is_version_1 : Geometry → Bool
is_version_1 g = nat_eq g.dirs 1

-- how many blocks hold index blocks
abbrev pub index_disks : Geometry → ℕ
index_disks g = (g.blocks + 63) / 64

-- how many index blocks there are
abbrev pub index_count : Geometry → ℕ
index_count g = 7 * index_disks g

-- the first data block
abbrev pub first_data : Geometry → ℕ
first_data g = g.dirs + index_disks g

-- how many entries a directory block has
abbrev pub entries_each : Geometry → ℕ
entries_each g = cond (is_version_1 g) 20 13

-- how many bytes a name can have
abbrev pub longest_name : Geometry → ℕ
longest_name g = cond (is_version_1 g) 15 27

-- the fewest and the most blocks of a disk
abbrev pub fewest_blocks : Geometry → ℕ
fewest_blocks g = cond (is_version_1 g) 8 14

-- the most blocks of a disk
abbrev pub most_blocks : Geometry → ℕ
most_blocks g = cond (is_version_1 g) 65536 65542

-- the disk block of an index block
abbrev pub index_block : Geometry → ℕ → ℕ
index_block g i = g.dirs + i / 7

-- the disk block of an entry
abbrev pub entry_block : Geometry → ℕ → ℕ
entry_block g e = e / entries_each g

-- how many bytes the data blocks hold
abbrev pub room : Geometry → ℕ
room g = 512 * (g.blocks - first_data g)

-- a directory, the index blocks and at least one data block have room, and no sum of their numbers is large
pub record IsGeometry (g : Geometry) : Type 0 where
  pub dirs : g.dirs ≤ 6
  pub few : g.dirs + 7 ≤ g.blocks
  pub many : g.blocks ≤ 65542
