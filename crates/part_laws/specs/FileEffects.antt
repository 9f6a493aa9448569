-- Which file and which device a call on files is about.
use Rattle.std.specs.Prelude.{ℕ, Bool, List, Option, Some, None, bytes_eq}
use Rattle.xinu_model.specs.Files.Calls.{FileCall, Open, Delete, Close, Read, Write, Getc, Putc, Seek, Truncate, Size}
use Rattle.xinu_model.specs.Files.Systems.{FileSystem, open_at, has_open, free_device}

-- whether a call names the file of this name, or its device has it open
abbrev pub is_about : List ℕ → FileCall → FileSystem → Bool
is_about name (Open other mode) s = bytes_eq other name
is_about name (Delete other) s = bytes_eq other name
is_about name (Close d) s = has_open name (open_at s d)
is_about name (Read d n) s = has_open name (open_at s d)
is_about name (Write d n) s = has_open name (open_at s d)
is_about name (Getc d) s = has_open name (open_at s d)
is_about name (Putc d b) s = has_open name (open_at s d)
is_about name (Seek d n) s = has_open name (open_at s d)
is_about name (Truncate d) s = has_open name (open_at s d)
is_about name (Size d) s = has_open name (open_at s d)

-- the device that a call is on, or that an open would give
abbrev pub device_of : FileCall → FileSystem → Option ℕ
device_of (Open name mode) s = Some (free_device s.devices)
device_of (Delete name) s = None
device_of (Close d) s = Some d
device_of (Read d n) s = Some d
device_of (Write d n) s = Some d
device_of (Getc d) s = Some d
device_of (Putc d b) s = Some d
device_of (Seek d n) s = Some d
device_of (Truncate d) s = Some d
device_of (Size d) s = Some d
