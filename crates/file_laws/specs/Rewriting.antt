-- The directory is written: the block of an entry, and then the first block with the counts.
use Rattle.std.specs.Prelude.{ℕ, ◌≡◌, ◌≢◌, ◌*◌, ◌/◌, ◌%◌, ◌<◌, ◌≤◌, false, List, length}
use Rattle.lfs_format.specs.declared.Entry.{Entry}
use Rattle.lfs_format.specs.Directory.{dir_of, IsDirBlock}
use Rattle.lfs_check.specs.declared.fields.Header.{Header}
use Rattle.lfs_check.specs.Meets.{null}
use Rattle.lfs_check.specs.Rules.{block_in, entry_is_used}
use Rattle.lfs_check.specs.Disks.{block_put, entry_at, dir_with_entry, dir_with_header}
use Rattle.lfs_layout.specs.Files.{bare_name}
use Rattle.lfs_layout.specs.Images.{IsCleanImage}
use Rattle.xinu_model.specs.Files.Stored.{empty_file, with_stored, with_contents, without_file}
use Rattle.file_laws.specs.StoredFiles.{stored_files, empty_entry}

-- of a disk of n blocks, the directory block of a slot with an entry put into it, and then the first block with the counts: both
-- may be block 0
pub record IsRewriting (disk : List ℕ) (n slot : ℕ) (entry : Entry) (header : Header) (eb hb : List ℕ) : Type 0 where
  pub long : length disk ≡ 512 * n
  pub room : 6 ≤ n
  pub slot_is : slot < 78
  pub entry_block : IsDirBlock (dir_with_entry (dir_of (block_in disk (slot / 13))) (slot % 13) entry) eb
  pub header_block : IsDirBlock (dir_with_header (dir_of (block_in (block_put disk (slot / 13) eb) 0)) header) hb

-- the disk after both writes
abbrev pub rewritten : List ℕ → ℕ → List ℕ → List ℕ → List ℕ
rewritten disk slot eb hb = block_put (block_put disk (slot / 13) eb) 0 hb

-- a disk is a clean base with one file more: an empty one, in this slot
pub record IsCreated (base : List ℕ) (slot : ℕ) (name : List ℕ) (made : List ℕ) : Type 0 where
  pub clean : IsCleanImage made
  pub size : length made ≡ length base
  pub files : stored_files made ≡ with_stored (empty_file (bare_name name)) (stored_files base)
  pub entry : entry_at made slot ≡ empty_entry name
  pub others : (k : ℕ) → k ≢ slot → entry_at made k ≡ entry_at base k

-- a disk is a clean base on which the file of a slot has these bytes
pub record IsFinished (base : List ℕ) (slot : ℕ) (entry : Entry) (bytes made : List ℕ) : Type 0 where
  pub clean : IsCleanImage made
  pub size : length made ≡ length base
  pub files : stored_files made ≡ with_contents (bare_name (entry_at base slot).name) bytes (stored_files base)
  pub entry_is : entry_at made slot ≡ entry
  pub others : (k : ℕ) → k ≢ slot → entry_at made k ≡ entry_at base k

-- the entry that a removed file leaves
pub record IsCleared (e : Entry) : Type 0 where
  pub size : e.size ≡ 0
  pub first : e.first ≡ null
  pub unused : entry_is_used e ≡ false

-- a disk is a clean base without the file of a slot
pub record IsRemoved (base : List ℕ) (slot : ℕ) (made : List ℕ) : Type 0 where
  pub clean : IsCleanImage made
  pub size : length made ≡ length base
  pub files : stored_files made ≡ without_file (bare_name (entry_at base slot).name) (stored_files base)
  pub others : (k : ℕ) → k ≢ slot → entry_at made k ≡ entry_at base k
