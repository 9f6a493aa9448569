-- The steps of `read` and `getc`.
use Rattle.std.specs.Prelude.{ℕ, zero, suc, ◌-◌, ◌/◌, ◌%◌, ◌==◌, not, nat_le, if◌then◌else◌, min, List, take, drop, Option, Some, None, slice_index, pos, negsuc}
use Rattle.lfs_format.specs.declared.Index.{Index}
use Rattle.local_files.specs.Buffers.{put_at}
use Rattle.local_files.specs.Steps.{is_getc, named_device, answered, device_at, moved_to, counted, at_byte, piece, done_more}
use Rattle.local_files.specs.Wanted.{going_on}
use Rattle.local_files.specs.declared.OpenFile.{OpenFile}
use Rattle.local_files.specs.declared.FileCall.{FileCall}
use Rattle.local_files.specs.declared.Files.{Files}
use Rattle.local_files.specs.declared.Phase.TheVariants.{Done}
use Rattle.local_files.specs.declared.Purpose.TheVariants.{Walk, Fetch}

-- a read of n bytes begins
abbrev pub reading : OpenFile → ℕ → FileCall → Files → Files
reading f n call e =
    if not f.read then answered (negsuc 0) e
    else (if n == 0 then answered (pos 0) e
    else (if nat_le f.entry.size f.position then answered (negsuc 1) e
    else going_on (Walk (f.position / 8192) f.entry.first) (record e {
      call = call;
      counters = record e.counters { position = f.position; total = min n (f.entry.size - f.position); done = 0 };
    })))

-- the same of a device, if it has something open
abbrev pub reading_at : Option OpenFile → ℕ → FileCall → Files → Files
reading_at None n call e = answered (negsuc 0) e
reading_at (Some f) n call e = reading f n call e

-- an index block was read
abbrev pub walked : ℕ → Index → Files → Files
walked zero index e = going_on (Fetch (slice_index index.blocks (at_byte e / 512 % 16))) (record e { index = index })
walked (suc rest) index e = going_on (Walk rest index.next) (record e { index = index })

-- the bytes of a data block are taken
abbrev pub with_taken : List ℕ → Files → Files
with_taken block e = record e {
  buffer = put_at e.counters.done (take (piece e) (drop (at_byte e % 512) block)) e.buffer;
  counters = done_more e;
}

-- the next data block
abbrev pub next_fetch : Files → Files
next_fetch e = if at_byte e % 8192 == 0 then going_on (Walk 0 e.index.next) e else going_on (Fetch (slice_index e.index.blocks (at_byte e / 512 % 16))) e

-- all bytes are read
abbrev pub given_all : Files → Files
given_all e = if is_getc e.call then answered (pos (slice_index e.buffer 0)) e else record e {
  phase = Done (counted e.counters.total);
  counters = record e.counters { given = e.counters.total };
}

-- all bytes are read: the position of the device is after them
abbrev pub finished_at : ℕ → Files → Files
finished_at d e = given_all (moved_to (device_at e d) d (at_byte e) e)

-- the same of the device that the call names
abbrev pub finished_read : Option ℕ → Files → Files
finished_read None e = answered (negsuc 0) e
finished_read (Some d) e = finished_at d e

-- a data block was read
abbrev pub read_on : Files → Files
read_on e = if nat_le e.counters.total e.counters.done then finished_read (named_device e.call) e else next_fetch e

-- a data block was read
abbrev pub fetched : List ℕ → Files → Files
fetched block e = read_on (with_taken block e)
