-- A disk in the middle of a call that changes a file: data blocks and index blocks are written, the directory isn't yet.
use Rattle.std.specs.Prelude.{ℕ, ◌≡◌, ◌≢◌, ◌*◌, ◌<◌, ◌≤◌, true, List, length, take, slice_set}
use Rattle.std.specs.List.{flat_map}
use Rattle.lfs_format.specs.declared.Entry.{Entry}
use Rattle.lfs_check.specs.declared.fields.Header.{Header}
use Rattle.lfs_check.specs.Geometries.{index_count}
use Rattle.lfs_check.specs.Rules.{entry_is_used, block_in}
use Rattle.lfs_check.specs.Laid.{Shape, Places, numbers_at}
use Rattle.lfs_check.specs.Clean.{LaidIn}
use Rattle.lfs_check.specs.Fields.{numbered_values, index_in_bytes, link_in_bytes}
use Rattle.lfs_check.specs.Disks.{disk_geometry, entries, entry_at}
use Rattle.lfs_layout.specs.Images.{IsCleanImage}
use Rattle.file_laws.specs.StoredFiles.{entry_bytes}

-- the fields of a disk, but with the counts, and the entry of a slot, that the call has in memory
abbrev pub shape_with : ℕ → List ℕ → Header → ℕ → Entry → Shape
shape_with n disk header slot entry = record {
  header = header;
  entries = slice_set (entries disk) slot entry;
  indexes = numbered_values (index_in_bytes (disk_geometry n) disk) (index_count (disk_geometry n));
  links = numbered_values (link_in_bytes disk) n;
}

-- so many bytes of the data blocks of a slot's file, by whose the blocks are
abbrev pub content_at : List ℕ → Places → ℕ → ℕ → List ℕ
content_at disk p k size = take size (flat_map (block_in disk) (numbers_at p.datas k))

-- A clean base of n blocks has a file in a slot.
pub record HasFileIn (n : ℕ) (base : List ℕ) (slot : ℕ) : Type 0 where
  pub clean : IsCleanImage base
  pub base_long : length base ≡ 512 * n
  pub low : 14 ≤ n
  pub high : n ≤ 65542
  pub slot_is : slot < 78
  pub was_used : entry_is_used (entry_at base slot) ≡ true

-- From a clean base of n blocks a call has come so far: files lie on the disk as the counts and the entry in memory have it, the file
-- of the slot has these bytes, and all other files have those of the base.
pub record IsMiddle (n : ℕ) (base disk : List ℕ) (header : Header) (slot : ℕ) (entry : Entry) (p : Places) (bytes : List ℕ) : Type 0 where
  pub from : HasFileIn n base slot
  pub open from use *
  pub long : length disk ≡ 512 * n
  pub directory : (d : ℕ) → d < 6 → block_in disk d ≡ block_in base d
  pub laid : LaidIn (disk_geometry n) (shape_with n disk header slot entry) p
  pub named : entry.name ≡ (entry_at base slot).name
  pub others : (k : ℕ) → k < 78 → k ≢ slot → entry_is_used (entry_at base k) ≡ true
      → content_at disk p k (entry_at base k).size ≡ entry_bytes base (entry_at base k)
  pub mine : content_at disk p slot entry.size ≡ bytes
