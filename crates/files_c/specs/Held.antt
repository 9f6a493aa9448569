-- What a judgement says of a disk.
use Rattle.std.specs.Prelude.{ℕ, ◌≡◌, ◌+◌, ◌<◌, ◌≤◌, ◌==◌, true, if◌then◌else◌, List, Option, Some, None}
use Rattle.files_c.specs.Spans.{span}
use Rattle.files_c.specs.declared.judging.FileAtRest.{FileAtRest}
use Rattle.file_laws.specs.Holds.{HasStored}
use Rattle.file_laws.specs.StoredFiles.{entry_chain, entry_data}
use Rattle.lfs_check.specs.Disks.{entry_at, is_this}
use Rattle.lfs_check.specs.Meets.{times_met}
use Rattle.lfs_layout.specs.Files.{padded_name}
use Rattle.xinu_model.specs.Files.Stored.{StoredFile}

-- the name of a file at rest, and the file, if there is one
abbrev pub name_in : List ℕ → FileAtRest → List ℕ
name_in texts f = span texts f.name f.name_bytes

abbrev pub stored_in : List ℕ → FileAtRest → Option StoredFile
stored_in texts f =
    if f.exists == 0 then None else Some (record { name = name_in texts f; bytes = span texts f.at f.bytes })

-- The disk holds the file: exactly one used entry has its name, reading it gives its bytes, and it lies in its blocks; or it has no entry
-- of the name, if there is no such file.
abbrev pub IsHeld : List ℕ → List ℕ → FileAtRest → Type 0
IsHeld disk texts f = HasStored disk (padded_name (name_in texts f)) (stored_in texts f)

-- No block is in the files of both names.
abbrev pub AreApart : List ℕ → List ℕ → List ℕ → Type 0
AreApart disk name other = (j k b : ℕ) → j < 78 → k < 78 → is_this name (entry_at disk j) ≡ true → is_this other (entry_at disk k) ≡ true
    → (times_met b (entry_chain disk (entry_at disk j)) + times_met b (entry_chain disk (entry_at disk k)) ≤ 1)
    × (times_met b (entry_data disk (entry_at disk j)) + times_met b (entry_data disk (entry_at disk k)) ≤ 1)

-- No block is twice in the file of a name.
abbrev pub IsOnce : List ℕ → List ℕ → Type 0
IsOnce disk name = (j b : ℕ) → j < 78 → is_this name (entry_at disk j) ≡ true
    → (times_met b (entry_chain disk (entry_at disk j)) ≤ 1) × (times_met b (entry_data disk (entry_at disk j)) ≤ 1)
