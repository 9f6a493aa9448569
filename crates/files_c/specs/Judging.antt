-- Which of the files that were at rest a disk holds, as a power cut left it.
use Rattle.std.specs.Prelude.{ℕ, ◌==◌, Bool, false, ◌&&◌, is_none, if◌then◌else◌, List, map, Option, Some, None, bytes_eq, count_by}
use Rattle.files_c.specs.Spans.{is_span, span}
use Rattle.files_c.specs.declared.judging.FileAtRest.{FileAtRest}
use Rattle.lfs_check.specs.Disks.{is_this}
use Rattle.lfs_check.specs.Fields.{directory_entries, geometry_of, is_version_2}
use Rattle.lfs_check.specs.Rules.{rule_0}
use Rattle.lfs_format.specs.declared.Entry.{Entry}
use Rattle.lfs_layout.specs.Files.{File, found, is_text, padded_name}
use Rattle.lfs_layout.specs.Images.{kept_files}

-- whether bytes are a disk of version 2: whole blocks, as many as that allows
abbrev pub is_disk : List ℕ → Bool
is_disk disk = is_version_2 disk && is_none (rule_0 (geometry_of disk) disk)

-- how many used entries have a name
abbrev pub times_named : List ℕ → List Entry → ℕ
times_named name entries = count_by (is_this name) entries

-- whether a file has these bytes
abbrev pub has_bytes : Option (List ℕ) → List ℕ → Bool
has_bytes None bytes = false
has_bytes (Some found) bytes = bytes_eq found bytes

-- whether exactly one entry has the name of a text, and its file is kept with these bytes
abbrev pub holds_file : List File → List Entry → List ℕ → List ℕ → Bool
holds_file kept entries text bytes =
    if is_text text then (if times_named (padded_name text) entries == 1 then has_bytes (found text kept) bytes else false)
    else false

-- whether no entry has the name of a text
abbrev pub holds_none : List Entry → List ℕ → Bool
holds_none entries text = if is_text text then times_named (padded_name text) entries == 0 else false

-- whether a file is held, or isn't there, as it is said
abbrev pub holds : List File → List Entry → List ℕ → FileAtRest → Bool
holds kept entries texts f =
    if is_span texts f.name f.name_bytes then (if is_span texts f.at f.bytes
    then (if f.exists == 0 then holds_none entries (span texts f.name f.name_bytes)
    else holds_file kept entries (span texts f.name f.name_bytes) (span texts f.at f.bytes))
    else false)
    else false

-- the judgement on a file: 1 if it is held
abbrev pub judged : List File → List Entry → List ℕ → FileAtRest → ℕ
judged kept entries texts f = if holds kept entries texts f then 1 else 0

-- The judgements on files, by a disk's entries and by the files that a repair of the disk keeps.
abbrev pub judgements : List ℕ → List ℕ → List FileAtRest → List ℕ
judgements disk texts files = map (judged (kept_files disk) (directory_entries (geometry_of disk) disk) texts) files
