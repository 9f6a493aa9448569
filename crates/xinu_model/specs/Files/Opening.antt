-- Opening, closing and deleting files (book, chapter 19, `lfsopen.c`, `lflclose.c`).
use Rattle.std.specs.Prelude.{ℕ, ◌+◌, nat_le, not, ◌||◌, if◌then◌else◌, List, length, Option, Some, None, is_some, pos}
use Rattle.xinu_base.specs.Constants.{OK}
use Rattle.xinu_base.specs.declared.files.OpenMode.{OpenMode}
use Rattle.xinu_model.specs.Files.Constants.{LF_NUM_DIR_ENT, Nlfl, LFILE0}
use Rattle.xinu_model.specs.Files.Modes.{reads, writes}
use Rattle.xinu_model.specs.Files.Stored.{StoredFile, empty_file, file_named, with_stored, without_file}
use Rattle.xinu_model.specs.Files.Systems.{OpenFile, FileSystem, FileEffect, is_open, free_device, with_device, replies, refused_effect}

-- what a device has open at first
abbrev pub opening : List ℕ → OpenMode → OpenFile
opening name mode = record { name = name; position = 0; may_read = reads mode; may_write = writes mode }

-- the lowest device that has nothing open gets the file
abbrev pub opened : List ℕ → OpenMode → FileSystem → FileEffect
opened name mode s =
    let d = free_device s.devices in replies (pos (LFILE0 + d)) (with_device d (Some (opening name mode)) s)

-- the files with an empty one of this name
abbrev pub with_created : List ℕ → FileSystem → FileSystem
with_created name s = record s { files = with_stored (empty_file name) s.files }

-- a file that there is; a file that there isn't is made
abbrev pub open_stored : Option StoredFile → List ℕ → OpenMode → FileSystem → FileEffect
open_stored (Some f) name mode s = if mode.only_new then refused_effect s else opened name mode s
open_stored None name mode s =
    if mode.only_old || nat_le LF_NUM_DIR_ENT (length s.files) then refused_effect s else opened name mode (with_created name s)

-- `open`: refused if the file is open, or no device is free; if only an old one is wanted and there is none, or only a new one and there
-- is one; or if it would be one file too many.
abbrev pub open_file : List ℕ → OpenMode → FileSystem → FileEffect
open_file name mode s =
    if is_open name s || nat_le Nlfl (free_device s.devices) then refused_effect s else open_stored (file_named name s.files) name mode s

-- `close`: the device has nothing open.
abbrev pub close_file : ℕ → OpenFile → FileSystem → FileEffect
close_file d f s = replies OK (with_device d None s)

-- The file system's `control` that deletes a file: refused if there is none, or it is open.
abbrev pub delete_file : List ℕ → FileSystem → FileEffect
delete_file name s =
    if is_open name s || not (is_some (file_named name s.files)) then refused_effect s
    else replies OK (record s { files = without_file name s.files })
