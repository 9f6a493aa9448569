-- A disk of version 2 by its bytes: its blocks, its entries and its counts, and what makes it a clean one.
use Rattle.std.specs.Prelude.{ℕ, ◌≡◌, ◌+◌, ◌*◌, ◌<◌, ◌≤◌, Bool, true, false, ◌&&◌, List, [], ◌++◌, length, take, drop, slice_index_or, slice_set, bytes_eq, count_by}
use Rattle.lfs_format.specs.declared.Entry.{Entry}
use Rattle.lfs_format.specs.declared.Dir.{Dir}
use Rattle.lfs_format.specs.Directory.{dir_of, dir_ending, void_entry}
use Rattle.lfs_check.specs.declared.geometry.Geometry.{Geometry}
use Rattle.lfs_check.specs.declared.fields.Header.{Header}
use Rattle.lfs_check.specs.Geometries.{room}
use Rattle.lfs_check.specs.Rules.{block_in, entry_is_used, is_name, are_zeros}
use Rattle.lfs_check.specs.Laid.{Places}
use Rattle.lfs_check.specs.Clean.{LaidIn}
use Rattle.lfs_check.specs.Fields.{entries_2, header_2, fields_of}

-- the geometry of a disk of version 2 with n blocks
abbrev pub disk_geometry : ℕ → Geometry
disk_geometry n = record { dirs = 6; blocks = n }

-- a disk with another block in the place of block n
unfoldable pub block_put : List ℕ → ℕ → List ℕ → List ℕ
block_put disk n block = take (512 * n) disk ++ (block ++ drop (512 * n + 512) disk)

-- the 78 entries of a disk
unfoldable pub entries : List ℕ → List Entry
entries disk = entries_2 disk

-- the entry of a slot, from 0 to 77
abbrev pub entry_at : List ℕ → ℕ → Entry
entry_at disk k = slice_index_or (entries disk) k void_entry

-- the counts of a disk: they are in its first block
unfoldable pub header_on : List ℕ → Header
header_on disk = header_2 (dir_of (block_in disk 0))

-- whether an entry has a file of this name
abbrev pub is_this : List ℕ → Entry → Bool
is_this name e = entry_is_used e && bytes_eq e.name name

-- a directory block with an entry in its place
abbrev pub dir_with_entry : Dir → ℕ → Entry → Dir
dir_with_entry dir k entry = record dir { entries = slice_set dir.entries k entry }

-- a directory block with these counts
abbrev pub dir_with_header : Dir → Header → Dir
dir_with_header dir h = record dir { free_data = h.free_data; free_index = h.free_index; files = h.files }

-- the bytes of the directory outside its entries: no counts but in the first block, and the same ending in each
pub record IsDirectory (disk : List ℕ) : Type 0 where
  pub begins : (d : ℕ) → 0 < d → d < 6 → are_zeros (take 12 (block_in disk d)) ≡ true
  pub ends : (d : ℕ) → d < 6 → drop 480 (block_in disk d) ≡ dir_ending

-- what makes a disk of n blocks a clean one of version 2: files lie on it with nothing held, and its directory is right
pub record IsRight (disk : List ℕ) (n : ℕ) (p : Places) : Type 0 where
  pub long : length disk ≡ 512 * n
  pub low : 14 ≤ n
  pub high : n ≤ 65542
  pub laid : LaidIn (disk_geometry n) (fields_of (disk_geometry n) disk) p
  pub no_index : p.held_index ≡ []
  pub no_data : p.held_data ≡ []
  pub directory : IsDirectory disk
  pub names : (k : ℕ) → k < 78 → entry_is_used (entry_at disk k) ≡ true
      → (is_name 27 (entry_at disk k).name ≡ true) × ((j : ℕ) → j < k → is_this (entry_at disk k).name (entry_at disk j) ≡ false)
  pub counted : count_by entry_is_used (entries disk) ≡ (header_on disk).files
  pub sizes : (k : ℕ) → k < 78 → entry_is_used (entry_at disk k) ≡ true → (entry_at disk k).size ≤ room (disk_geometry n)
