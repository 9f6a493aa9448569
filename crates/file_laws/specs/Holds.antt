-- What a disk has of the files at rest, also in the middle of a call.
use Rattle.std.specs.Prelude.{ℕ, ◌≡◌, ◌≢◌, ◌+◌, ◌<◌, ◌≤◌, Bool, true, false, List, length, Option, Some, None}
use Rattle.lfs_check.specs.Meets.{times_met}
use Rattle.lfs_check.specs.Rules.{is_name}
use Rattle.lfs_check.specs.Laid.{FileLies}
use Rattle.lfs_check.specs.Fields.{geometry_of, fields_of, is_version_2}
use Rattle.lfs_check.specs.Disks.{is_this, entry_at}
use Rattle.lfs_layout.specs.Files.{bare_name}
use Rattle.xinu_model.specs.Files.Stored.{StoredFile, file_named}
use Rattle.file_laws.specs.StoredFiles.{entry_bytes, entry_chain, entry_data}

-- Exactly one used entry has a name. Reading it gives these bytes, of which its size is the number, and it lies in its index and data blocks as
-- the file system has it: so many of each as the size needs, each index block with its place in the file and the number of the next, and null
-- for the next of the last and for each number after the last data block.
pub record HasFile (disk name bytes : List ℕ) : Type 0 where
  pub slot : ℕ
  pub below : slot < 78
  pub this : is_this name (entry_at disk slot) ≡ true
  pub only : (k : ℕ) → k < 78 → k ≢ slot → is_this name (entry_at disk k) ≡ false
  pub read : entry_bytes disk (entry_at disk slot) ≡ bytes
  pub size : (entry_at disk slot).size ≡ length bytes
  pub lies : FileLies (fields_of (geometry_of disk) disk) (entry_at disk slot) (entry_chain disk (entry_at disk slot)) (entry_data disk (entry_at disk slot))

-- the disk has the file of a name, if there is one, and else no used entry of the name
abbrev pub HasStored : List ℕ → List ℕ → Option StoredFile → Type 0
HasStored disk name (Some f) = HasFile disk name f.bytes
HasStored disk name None = (k : ℕ) → k < 78 → is_this name (entry_at disk k) ≡ false

-- The disk is of version 2 and holds the files whose names are at rest: each is read off it, and no block is in two of them, nor twice in one.
pub record Holds (disk : List ℕ) (files : List StoredFile) (rests : List ℕ → Bool) : Type 0 where
  pub version : is_version_2 disk ≡ true
  pub each : (name : List ℕ) → is_name 27 name ≡ true → length name ≡ 28 → rests (bare_name name) ≡ true
      → HasStored disk name (file_named (bare_name name) files)
  pub chains : (i j k : ℕ) → j < 78 → k < 78 → j ≢ k → rests (bare_name (entry_at disk j).name) ≡ true
      → rests (bare_name (entry_at disk k).name) ≡ true
      → times_met i (entry_chain disk (entry_at disk j)) + times_met i (entry_chain disk (entry_at disk k)) ≤ 1
  pub datas : (b j k : ℕ) → j < 78 → k < 78 → j ≢ k → rests (bare_name (entry_at disk j).name) ≡ true
      → rests (bare_name (entry_at disk k).name) ≡ true
      → times_met b (entry_data disk (entry_at disk j)) + times_met b (entry_data disk (entry_at disk k)) ≤ 1
  pub once : (b k : ℕ) → k < 78 → rests (bare_name (entry_at disk k).name) ≡ true
      → (times_met b (entry_chain disk (entry_at disk k)) ≤ 1) × (times_met b (entry_data disk (entry_at disk k)) ≤ 1)
