-- The steps of `write` and `putc`.
use Rattle.std.specs.Prelude.{ℕ, zero, suc, ◌+◌, ◌-◌, ◌/◌, ◌%◌, ◌==◌, Bool, not, nat_eq, nat_le, nat_lt, ◌&&◌, ◌||◌, if◌then◌else◌, max, List, length, replicate, Option, Some, None, slice_index, slice_set, pos, negsuc}
use Rattle.lfs_format.specs.declared.Index.{Index}
use Rattle.lfs_format.specs.declared.Dir.{Dir}
use Rattle.lfs_check.specs.Fields.{header_2}
use Rattle.lfs_check.specs.Meets.{null}
use Rattle.local_files.specs.Buffers.{put_at}
use Rattle.local_files.specs.Steps.{answered, at_byte, is_truncate, done_more}
use Rattle.local_files.specs.Wanted.{going_on}
use Rattle.local_files.specs.Cuts.{cutting, held_file}
use Rattle.local_files.specs.declared.OpenFile.{OpenFile}
use Rattle.local_files.specs.declared.FileCall.{FileCall}
use Rattle.local_files.specs.declared.Files.{Files}
use Rattle.local_files.specs.declared.Phase.TheVariants.{Wants}
use Rattle.local_files.specs.declared.Purpose.TheVariants.{Reach, PatchRead, TakeRead, AddRead, NewRead, LinkRead, EntryRead}

-- a write of these bytes begins
abbrev pub writing : OpenFile → List ℕ → FileCall → Files → Files
writing f bytes call e =
    if not f.write || nat_lt 1048576 (length bytes) then answered (negsuc 0) e
    else (if length bytes == 0 then answered (pos 0) e
    else record (held_file f call e) {
      buffer = put_at 0 bytes e.buffer;
      counters = record e.counters { position = f.position; total = length bytes; done = 0 };
      reached = 0;
    })

-- the same of a device, if it has something open
abbrev pub writing_at : Option OpenFile → List ℕ → FileCall → Files → Files
writing_at None bytes call e = answered (negsuc 0) e
writing_at (Some f) bytes call e = writing f bytes call e

-- no more bytes are put: refused if there are none
abbrev pub end_put : Files → Files
end_put e = if e.counters.done == 0 then answered (negsuc 0) e else record e { phase = Wants EntryRead }

-- whether the next bytes need a new data block
abbrev pub at_end : Files → Bool
at_end e = nat_eq (at_byte e) e.entry.size && (at_byte e % 512 == 0)

-- which index block of the file they need
abbrev pub target : Files → ℕ
target e = if at_end e && nat_lt 0 (at_byte e) then (at_byte e - 1) / 8192 else at_byte e / 8192

-- goes on to the index block that is needed
abbrev pub reach_to : Files → Files
reach_to e = if e.reached == 0 then going_on (Reach (target e) e.entry.first) e else going_on (Reach 0 e.index.next) e

-- the next bytes need a new data block
abbrev pub appending : Files → Files
appending e =
    if (e.header.free_data == null) || ((at_byte e % 8192 == 0) && (e.header.free_index == null)) then end_put e
    else (if (at_byte e == 0) || (e.reached == target e + 1) then going_on (TakeRead e.header.free_data) e else reach_to e)

-- the next bytes go into a data block of the file
abbrev pub in_place : Files → Files
in_place e = if e.reached == target e + 1 then going_on (PatchRead (slice_index e.index.blocks (at_byte e / 512 % 16))) e else reach_to e

-- goes on with the bytes that are left
abbrev pub next_put : Files → Files
next_put e = if nat_le e.counters.total e.counters.done then end_put e else (if at_end e then appending e else in_place e)

-- the counts were read
abbrev pub counts_read : Dir → Files → Files
counts_read dir e =
    let c : Files = record e { header = header_2 dir } in if is_truncate e.call then cutting e.entry c else next_put c

-- an index block was read
abbrev pub reached : ℕ → ℕ → Index → Files → Files
reached zero at index e = next_put (record e { index = index; at = at; reached = target e + 1 })
reached (suc rest) at index e = going_on (Reach rest index.next) (record e { index = index; at = at })

-- the bytes are on the disk
abbrev pub put_done : Files → Files
put_done e = let d : Files = record e { counters = done_more e } in
    record d { entry = record e.entry { size = max e.entry.size (at_byte d) } }

-- the data block is written
abbrev pub take_written : ℕ → Files → Files
take_written b e = if at_byte e % 8192 == 0 then going_on (NewRead b e.header.free_index) e else record e { phase = Wants (AddRead b) }

-- the last index block with one data block more
abbrev pub added_index : ℕ → Files → Index
added_index b e = record e.index { blocks = slice_set e.index.blocks (at_byte e / 512 % 16) b }

-- an index block of one data block
abbrev pub fresh_index : ℕ → Files → Index
fresh_index b e = record { next = null; offset = at_byte e; blocks = slice_set (replicate 16 null) 0 b }

-- the new index block is the last
abbrev pub followed : ℕ → ℕ → Files → Files
followed b i e = record e { index = fresh_index b e; at = i; reached = (e.reached + 1) % 4294967296 }

-- it is written: it is the first of the file, or the last one is to name it
abbrev pub new_written : ℕ → ℕ → Files → Files
new_written b i e =
    if at_byte e == 0 then next_put (put_done (followed b i (record e { entry = record e.entry { first = i } }))) else record e {
      phase =
          (Wants (LinkRead b i));
    }

-- the index block that is named by the one before it
abbrev pub linked_index : ℕ → Index → Index
linked_index i index = record index { next = i }
