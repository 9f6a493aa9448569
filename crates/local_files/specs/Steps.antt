-- Steps of the engine in its own memory: answers, devices, and where a call is in its file.
use Rattle.std.specs.Prelude.{ℕ, ◌+◌, ◌-◌, ◌%◌, Bool, true, false, nat_lt, if◌then◌else◌, min, List, map, Option, Some, None, slice_index_or, slice_set, bytes_eq, ℤ, pos, negsuc}
use Rattle.std.specs.List.{list_any}
use Rattle.xinu_model.specs.Files.Systems as systems
use Rattle.xinu_model.specs.Files.Systems.{free_device}
use Rattle.lfs_layout.specs.Files.{bare_name}
use Rattle.lfs_format.specs.declared.Index.{Index}
use Rattle.local_files.specs.Buffers.{patched}
use Rattle.local_files.specs.declared.OpenFile.{OpenFile}
use Rattle.local_files.specs.declared.FileCall.{FileCall}
use Rattle.local_files.specs.declared.FileCall.TheVariants.{Open, Delete, Close, Read, Write, Getc, Putc, Seek, Truncate, Size}
use Rattle.local_files.specs.declared.Phase.TheVariants.{Done}
use Rattle.local_files.specs.declared.Counters.{Counters}
use Rattle.local_files.specs.declared.Files.{Files}

-- what the abstract machine sees of an open file
abbrev pub shown : Option OpenFile → Option systems.OpenFile
shown None = None
shown (Some f) = Some (record { name = bare_name f.entry.name; position = f.position; may_read = f.read; may_write = f.write })

-- what a device has open
abbrev pub device_at : Files → ℕ → Option OpenFile
device_at e d = slice_index_or e.devices d None

-- the position of what is open
abbrev pub position_at : Option OpenFile → Option ℕ
position_at None = None
position_at (Some f) = Some f.position

-- the call is done, and has given no bytes
abbrev pub answered : ℤ → Files → Files
answered reply e = record e { phase = Done reply; counters = record e.counters { given = 0 } }

-- a device has this open
abbrev pub with_device : ℕ → Option OpenFile → Files → Files
with_device d x e = record e { devices = slice_set e.devices d x }

-- the position of a device is another
abbrev pub moved_to : Option OpenFile → ℕ → ℕ → Files → Files
moved_to None d position e = e
moved_to (Some f) d position e = with_device d (Some (record f { position = position })) e

-- a device has the entry in hand, at another position
abbrev pub kept_at : Option OpenFile → ℕ → ℕ → Files → Files
kept_at None d position e = e
kept_at (Some f) d position e = with_device d (Some (record f { entry = e.entry; position = position })) e

-- the lowest device that has nothing open
abbrev pub lowest_free : Files → ℕ
lowest_free e = free_device (map shown e.devices)

-- whether a device has the file of a name open, by the whole name
abbrev pub has_this_open : List ℕ → Option OpenFile → Bool
has_this_open name None = false
has_this_open name (Some f) = bytes_eq f.entry.name name

-- whether the file of a name is open
abbrev pub is_this_open : List ℕ → List (Option OpenFile) → Bool
is_this_open name devices = list_any (has_this_open name) devices

-- a number of bytes as a reply
abbrev pub counted : ℕ → ℤ
counted n = if nat_lt 2147483647 n then negsuc 0 else pos n

-- the position in the file up to which a call has come
abbrev pub at_byte : Files → ℕ
at_byte e = (e.counters.position + e.counters.done) % 4294967296

-- how many of its bytes are in the block of that position
abbrev pub piece : Files → ℕ
piece e = min (512 - at_byte e % 512) (e.counters.total - e.counters.done)

-- the counters once those bytes are taken or put
abbrev pub done_more : Files → Counters
done_more e = record e.counters { done = (e.counters.done + piece e) % 4294967296 }

-- the device that a call names, if it names one
abbrev pub named_device : FileCall → Option ℕ
named_device (Open name mode) = None
named_device (Delete name) = None
named_device (Close d) = Some d
named_device (Read d n) = Some d
named_device (Write d) = Some d
named_device (Getc d) = Some d
named_device (Putc d b) = Some d
named_device (Seek d n) = Some d
named_device (Truncate d) = Some d
named_device (Size d) = Some d

-- a block with those bytes from a place on
abbrev pub with_piece : ℕ → List ℕ → Files → List ℕ
with_piece from block e = patched e.counters.done (piece e) from e.buffer block

-- the engine has another index block
abbrev pub with_index : Index → Files → Files
with_index index e = record e { index = index }

-- another data block is the first free one
abbrev pub with_free_data : ℕ → Files → Files
with_free_data block e = record e { header = record e.header { free_data = block } }

-- another index block is the first free one
abbrev pub with_free_index : ℕ → Files → Files
with_free_index index e = record e { header = record e.header { free_index = index } }

-- which calls these are
abbrev pub is_getc : FileCall → Bool
is_getc (Getc d) = true
is_getc _ = false

-- whether it is a write
abbrev pub is_write : FileCall → Bool
is_write (Write d) = true
is_write _ = false

-- whether it truncates
abbrev pub is_truncate : FileCall → Bool
is_truncate (Truncate d) = true
is_truncate _ = false

-- whether it deletes
abbrev pub is_delete : FileCall → Bool
is_delete (Delete name) = true
is_delete _ = false

-- the number of a device that is there
abbrev pub or_none : Option ℕ → ℕ
or_none None = 6
or_none (Some d) = d

-- the device of a call; 6 if it names none
abbrev pub device_of : FileCall → ℕ
device_of call = or_none (named_device call)
