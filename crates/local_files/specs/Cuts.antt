-- The steps of `truncate`, and those that a deletion has besides.
use Rattle.std.specs.Prelude.{ℕ, ◌+◌, ◌%◌, ◌==◌, not, nat_lt, ◌&&◌, if◌then◌else◌, List, ◌++◌, replicate, Option, Some, None, slice_index, pos, negsuc}
use Rattle.byteorder.specs.Endian.{little_bytes}
use Rattle.lfs_format.specs.declared.Entry.{Entry}
use Rattle.lfs_format.specs.declared.Index.{Index}
use Rattle.lfs_check.specs.Meets.{null}
use Rattle.local_files.specs.Steps.{answered, moved_to, device_at, is_delete}
use Rattle.local_files.specs.Wanted.{going_on}
use Rattle.local_files.specs.declared.OpenFile.{OpenFile}
use Rattle.local_files.specs.declared.FileCall.{FileCall}
use Rattle.local_files.specs.declared.Files.{Files}
use Rattle.local_files.specs.declared.Phase.TheVariants.{Wants}
use Rattle.local_files.specs.declared.Purpose.TheVariants.{Counts, CutRead, FreeWrite, EntryRead}

-- a call takes the file of a device in hand, and reads the counts
abbrev pub held_file : OpenFile → FileCall → Files → Files
held_file f call e = record e { call = call; slot = f.slot; entry = f.entry; phase = Wants Counts }

-- a file is to be cut to nothing: refused unless it may be written
abbrev pub truncating : OpenFile → ℕ → FileCall → Files → Files
truncating f d call e =
    if not f.write then answered (negsuc 0) e
    else (if f.entry.size == 0 then answered (pos 0) (moved_to (device_at e d) d 0 e) else held_file f call e)

-- the same of a device, if it has something open
abbrev pub truncating_at : Option OpenFile → ℕ → FileCall → Files → Files
truncating_at None d call e = answered (negsuc 0) e
truncating_at (Some f) d call e = truncating f d call e

-- all blocks are free
abbrev pub end_cut : Files → Files
end_cut e =
    if is_delete e.call then record e {
      entry = record e.entry { name = replicate 28 0 };
      header = record e.header { files = (e.header.files + 4294967295) % 4294967296 };
      phase = Wants EntryRead;
    }
    else record e { phase = Wants EntryRead }

-- the file in hand is cut to nothing
abbrev pub cutting : Entry → Files → Files
cutting entry e =
    let c : Files = record e { at = entry.first; reached = 0; freed = 0; entry = record entry { size = 0; first = null } } in
    if entry.size == 0 then end_cut c else going_on CutRead c

-- an index block that names the first free one
abbrev pub freed_index : Index → Files → Index
freed_index index e = record index { next = e.header.free_index }

-- it is written: it is the first free one
abbrev pub cut_written : Files → Files
cut_written e = record e { header = record e.header { free_index = e.at }; reached = (e.reached + 1) % 4294967296; freed = 0 }

-- a block that begins with a word
abbrev pub word_block : ℕ → List ℕ
word_block word = little_bytes 4 word ++ replicate 508 0

-- a data block is to be freed, if there is such a block
abbrev pub freeing : ℕ → Files → Files
freeing b e = going_on (FreeWrite b) (record e { block = word_block e.header.free_data })

-- goes on to the next data block, or the next index block, or the end
abbrev pub free_next : Files → Files
free_next e =
    if nat_lt e.freed 16 && not (slice_index e.index.blocks (e.freed % 16) == null) then freeing (slice_index e.index.blocks (e.freed % 16)) e
    else (if not (e.index.next == null) then going_on CutRead (record e { at = e.index.next }) else end_cut e)

-- it is written: it is the first free one
abbrev pub free_written : ℕ → Files → Files
free_written b e = record e { header = record e.header { free_data = b }; freed = (e.freed + 1) % 4294967296 }
