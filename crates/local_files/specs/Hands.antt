-- What is so while a call waits for a block.
use Rattle.std.specs.Prelude.{ℕ, ◌≡◌, ◌≢◌, ◌+◌, ◌-◌, ◌*◌, ◌/◌, ◌%◌, ◌<◌, ◌≤◌, true, false, nat_le, min, if◌then◌else◌, Bool, List, [], ◌∷◌, length, map, take, drop, Option, Some, None, slice_index, slice_index_or}
use Rattle.lfs_format.specs.Indexes.{IsIndexPut}
use Rattle.lfs_format.specs.Directory.{dir_of, IsDirBlock}
use Rattle.lfs_check.specs.Meets.{null}
use Rattle.lfs_check.specs.Rules.{block_in, entry_is_used, is_name}
use Rattle.lfs_check.specs.Laid.{Places, index_for}
use Rattle.lfs_check.specs.Disks.{block_put, entry_at, header_on, is_this, dir_with_entry, dir_with_header}
use Rattle.lfs_layout.specs.Files.{bare_name}
use Rattle.lfs_layout.specs.Images.{IsCleanImage}
use Rattle.xinu_model.specs.Files.Stored.{StoredFile, empty_file, with_stored, without_file, with_contents}
use Rattle.xinu_model.specs.Files.Systems as systems
use Rattle.xinu_model.specs.Files.Systems.{FileSystem, is_open, free_device}
use Rattle.xinu_model.specs.Files.Writing.{overwritten, fitting}
use Rattle.file_laws.specs.StoredFiles.{stored_files, entry_bytes, entry_chain, entry_data}
use Rattle.file_laws.specs.Changing.{IsCut}
use Rattle.file_laws.specs.Holds.{Holds}
use Rattle.local_files.specs.Steps.{shown, device_at, device_of}
use Rattle.local_files.specs.Wanted.{block_of_index}
use Rattle.local_files.specs.Cuts.{word_block, freed_index}
use Rattle.xinu_base.specs.declared.files.OpenMode.{OpenMode}
use Rattle.local_files.specs.declared.OpenFile.{OpenFile}
use Rattle.local_files.specs.declared.FileCall.{FileCall}
use Rattle.local_files.specs.declared.FileCall.TheVariants.{Open, Delete, Read, Write, Getc, Putc, Truncate}
use Rattle.local_files.specs.declared.Counters.{Counters}
use Rattle.local_files.specs.declared.Phase.TheVariants.{Idle}
use Rattle.local_files.specs.declared.Files.{Files}

-- what the abstract machine sees of the engine, over the disk as it was when the call in hand began
abbrev pub system : Files → List ℕ → FileSystem
system e base = record { blocks = e.blocks; files = stored_files base; devices = map shown e.devices }

-- a call that can be: a name has a text and zeros up to 28 bytes, and no read is longer than the buffer
abbrev pub IsCall : FileCall → Type 0
IsCall (Open name mode) = (is_name 27 name ≡ true) × (length name ≡ 28)
IsCall (Delete name) = (is_name 27 name ≡ true) × (length name ≡ 28)
IsCall (Read d n) = n ≤ 1048576
IsCall _ = Unit {0}

-- the name that a call looks for
abbrev pub name_of : FileCall → List ℕ
name_of (Open name mode) = name
name_of (Delete name) = name
name_of _ = []

-- the bytes that the call in hand puts
abbrev pub put_bytes : Files → List ℕ
put_bytes e = take e.counters.total e.buffer

-- The engine but for the blocks that it works on and the counts: what a call is for, and what it has done, is said of the rest.
abbrev pub but_blocks : Files → Files
but_blocks e = record e {
  phase = Idle;
  header = record { free_data = 0; free_index = 0; files = 0 };
  block = [];
  index = record { next = 0; offset = 0; blocks = [] };
  at = 0;
  reached = 0;
  freed = 0;
}

-- what the abstract machine has for an open file
abbrev pub seen : OpenFile → systems.OpenFile
seen f = record { name = bare_name f.entry.name; position = f.position; may_read = f.read; may_write = f.write }

-- An open device has an entry of the disk, as it is there.
pub record IsOpenOn (base : List ℕ) (f : OpenFile) : Type 0 where
  pub slot : f.slot < 78
  pub entry : entry_at base f.slot ≡ f.entry
  pub used : entry_is_used f.entry ≡ true
  pub position : f.position ≤ f.entry.size

-- the same of a device, if it has something open
abbrev pub IsDevice : List ℕ → Option OpenFile → Type 0
IsDevice base None = Unit {0}
IsDevice base (Some f) = IsOpenOn base f

-- two devices have different files open
abbrev pub AreApart : Option OpenFile → Option OpenFile → Type 0
AreApart (Some f) (Some g) = f.slot ≢ g.slot
AreApart _ _ = Unit {0}

-- Searching.

-- what is known of a call that looks for its name: it may be carried out
abbrev pub MayLook : FileCall → FileSystem → Type 0
MayLook (Open name mode) s = (is_open (bare_name name) s ≡ false) × (nat_le 6 (free_device s.devices) ≡ false)
MayLook (Delete name) s = is_open (bare_name name) s ≡ false
MayLook _ s = ⊥

-- a slot is a free one among the first n entries, or 78 if all of those are used
pub record IsFreeSlot (base : List ℕ) (n slot : ℕ) : Type 0 where
  pub found : slot < 78 → (slot < n) × (entry_is_used (entry_at base slot) ≡ false)
  pub full : 78 ≤ slot → (k : ℕ) → k < n → entry_is_used (entry_at base k) ≡ true

-- the search has passed the first d blocks
pub record IsSearch (e : Files) (d : ℕ) (base disk : List ℕ) : Type 0 where
  pub same : disk ≡ base
  pub block : d < 6
  pub call : IsCall e.call
  pub look : MayLook e.call (system e base)
  pub none : (k : ℕ) → k < 13 * d → is_this (name_of e.call) (entry_at base k) ≡ false
  pub free : IsFreeSlot base (13 * d) e.slot
  pub header : 0 < d → e.header ≡ header_on base

-- Reading.

-- how many bytes a call wants to read
abbrev pub read_count : FileCall → ℕ
read_count (Read d n) = n
read_count (Getc d) = 1
read_count _ = 0

-- a read of an open file, which has more bytes at its position
pub record IsReadingBy (call : FileCall) (devices : List (Option OpenFile)) (counters : Counters) (buffer base : List ℕ) : Type 0 where
  pub some : 0 < read_count call
  pub few : read_count call ≤ 1048576
  pub file : OpenFile
  pub open_is : slice_index_or devices (device_of call) None ≡ Some file
  pub reads : file.read ≡ true
  pub position : counters.position ≡ file.position
  pub within : file.position < file.entry.size
  pub total : counters.total ≡ min (read_count call) (file.entry.size - file.position)
  pub left : counters.done < counters.total
  pub taken : take counters.done buffer ≡ take counters.done (drop file.position (entry_bytes base file.entry))

-- the same of the engine
abbrev pub IsReading : Files → List ℕ → Type 0
IsReading e base = IsReadingBy e.call e.devices e.counters e.buffer base

-- it waits for an index block of the file, after which so many come to that of the position
pub record IsWalking (e : Files) (rest at : ℕ) (base disk : List ℕ) : Type 0 where
  pub same : disk ≡ base
  pub reading : IsReading e base
  pub few : rest ≤ (reading.file.position + e.counters.done) / 8192
  pub here : at ≡ slice_index (entry_chain base reading.file.entry) ((reading.file.position + e.counters.done) / 8192 - rest)

-- it waits for the data block of the position
pub record IsFetching (e : Files) (b : ℕ) (base disk : List ℕ) : Type 0 where
  pub same : disk ≡ base
  pub reading : IsReading e base
  pub index : e.index ≡ index_for ((reading.file.position + e.counters.done) / 8192) (entry_chain base reading.file.entry)
      (entry_data base reading.file.entry)
  pub here : b ≡ slice_index (entry_data base reading.file.entry) ((reading.file.position + e.counters.done) / 512)

-- The end of a call that writes the directory.

-- an empty file is made
pub record IsCreating (e : Files) (base : List ℕ) : Type 0 where
  pub slot : e.slot < 78
  pub call : IsCall e.call
  pub look : MayLook e.call (system e base)
  pub none : (k : ℕ) → k < 78 → is_this (name_of e.call) (entry_at base k) ≡ false
  pub named : e.entry.name ≡ name_of e.call
  pub empty : e.entry.size ≡ 0
  pub free : entry_is_used (entry_at base e.slot) ≡ false
  pub may : (name : List ℕ) (mode : OpenMode) → e.call ≡ Open name mode → mode.only_old ≡ false

-- a file is deleted
pub record IsDeleting (e : Files) (base : List ℕ) : Type 0 where
  pub slot : e.slot < 78
  pub call : IsCall e.call
  pub closed : is_open (bare_name (name_of e.call)) (system e base) ≡ false
  pub used : entry_is_used (entry_at base e.slot) ≡ true
  pub named : (entry_at base e.slot).name ≡ name_of e.call

-- a file that a device has open is written: the first bytes of those that fit are put
pub record IsWritten (e : Files) (base : List ℕ) : Type 0 where
  pub file : OpenFile
  pub open_is : device_at e (device_of e.call) ≡ Some file
  pub writes : file.write ≡ true
  pub slot : e.slot ≡ file.slot
  pub position : e.counters.position ≡ file.position
  pub some : 0 < e.counters.done
  pub few : e.counters.done ≤ e.counters.total
  pub most : e.counters.total ≤ 1048576
  pub fits : fitting (seen file) (put_bytes e) (system e base) ≡ e.counters.done
  pub size : file.position + e.counters.done ≤ e.entry.size
  pub named : e.entry.name ≡ file.entry.name

-- a file that a device has open is emptied
pub record IsEmptied (e : Files) (base : List ℕ) : Type 0 where
  pub file : OpenFile
  pub open_is : device_at e (device_of e.call) ≡ Some file
  pub writes : file.write ≡ true
  pub slot : e.slot ≡ file.slot
  pub named : e.entry.name ≡ file.entry.name

-- what the call has done
abbrev pub IsEnding : FileCall → Files → List ℕ → Type 0
IsEnding (Open name mode) e base = IsCreating e base
IsEnding (Delete name) e base = IsDeleting e base
IsEnding (Write d) e base = IsWritten e base
IsEnding (Putc d b) e base = IsWritten e base × (put_bytes e ≡ b ∷ [])
IsEnding (Truncate d) e base = IsEmptied e base
IsEnding _ e base = ⊥

-- the file of the slot with the bytes that were put
abbrev pub put_files : Files → List ℕ → List StoredFile
put_files e base =
    with_contents (bare_name (entry_at base e.slot).name)
    (overwritten e.counters.position (take e.counters.done (put_bytes e)) (entry_bytes base (entry_at base e.slot))) (stored_files base)

-- the files after it
abbrev pub files_after : FileCall → Files → List ℕ → List StoredFile
files_after (Open name mode) e base = with_stored (empty_file (bare_name name)) (stored_files base)
files_after (Delete name) e base = without_file (bare_name name) (stored_files base)
files_after (Write d) e base = put_files e base
files_after (Putc d b) e base = put_files e base
files_after (Truncate d) e base = with_contents (bare_name (entry_at base e.slot).name) [] (stored_files base)
files_after _ e base = stored_files base

-- a disk is what the call makes of the base
pub record IsMade (e : Files) (base made : List ℕ) : Type 0 where
  pub clean : IsCleanImage made
  pub size : length made ≡ length base
  pub files : stored_files made ≡ files_after e.call e base
  pub entry : entry_at made e.slot ≡ e.entry
  pub others : (k : ℕ) → k ≢ e.slot → entry_at made k ≡ entry_at base k

-- the blocks that the engine makes of what it reads
abbrev pub IsEntryBlock : Files → List ℕ → List ℕ → Type 0
IsEntryBlock e disk eb = IsDirBlock (dir_with_entry (dir_of (block_in disk (e.slot / 13))) (e.slot % 13) e.entry) eb

-- and so with its counts
abbrev pub IsHeaderBlock : Files → List ℕ → List ℕ → Type 0
IsHeaderBlock e disk hb = IsDirBlock (dir_with_header (dir_of (block_in disk 0)) e.header) hb

-- the name of the file in hand: that of its slot, or that of its entry if the slot is free
abbrev pub name_in_hand : Files → List ℕ → List ℕ
name_in_hand e base = if entry_is_used (entry_at base e.slot) then (entry_at base e.slot).name else e.entry.name

-- a disk holds the files of the base that are at rest, whichever they are, if the file in hand isn't
abbrev pub HoldsOthers : Files → List ℕ → List ℕ → Type 0
HoldsOthers e base disk = (rests : List ℕ → Bool) → rests (bare_name (name_in_hand e base)) ≡ false → Holds disk (stored_files base) rests

-- the entry's block is to be written: whatever blocks come of the two writes, the disk is made
pub record IsClosing (e : Files) (base disk : List ℕ) : Type 0 where
  pub ending : IsEnding e.call (but_blocks e) base
  pub slot : e.slot < 78
  pub held : HoldsOthers e base disk
  pub next : (eb : List ℕ) → IsEntryBlock e disk eb → HoldsOthers e base (block_put disk (e.slot / 13) eb)
  pub made : (eb hb : List ℕ) → IsEntryBlock e disk eb → IsHeaderBlock e (block_put disk (e.slot / 13) eb) hb
      → IsMade (but_blocks e) base (block_put (block_put disk (e.slot / 13) eb) 0 hb)

-- the entry's block is to be written as it is in hand
pub record IsEntryWrite (e : Files) (base disk : List ℕ) : Type 0 where
  pub ending : IsEnding e.call (but_blocks e) base
  pub slot : e.slot < 78
  pub held : HoldsOthers e base disk
  pub next : HoldsOthers e base (block_put disk (e.slot / 13) e.block)
  pub made : (hb : List ℕ) → IsHeaderBlock e (block_put disk (e.slot / 13) e.block) hb
      → IsMade (but_blocks e) base (block_put (block_put disk (e.slot / 13) e.block) 0 hb)

-- it is written, and the counts are to be
pub record IsHeaderRead (e : Files) (base disk : List ℕ) : Type 0 where
  pub ending : IsEnding e.call (but_blocks e) base
  pub slot : e.slot < 78
  pub held : HoldsOthers e base disk
  pub made : (hb : List ℕ) → IsHeaderBlock e disk hb → IsMade (but_blocks e) base (block_put disk 0 hb)

-- they are to be written as they are in hand
pub record IsHeaderWrite (e : Files) (base disk : List ℕ) : Type 0 where
  pub ending : IsEnding e.call (but_blocks e) base
  pub slot : e.slot < 78
  pub held : HoldsOthers e base disk
  pub made : IsMade (but_blocks e) base (block_put disk 0 e.block)

-- Cutting.

-- what a call that cuts its file is for
abbrev pub IsCutFor : FileCall → Files → List ℕ → Type 0
IsCutFor (Delete name) e base = IsDeleting e base
IsCutFor (Truncate d) e base = IsEmptied e base
IsCutFor _ e base = ⊥

-- the file in hand is cut to nothing: of its blocks, by its size on the base, the first ones are free
pub record IsCutting (e : Files) (freed : ℕ) (base disk : List ℕ) : Type 0 where
  pub for : IsCutFor e.call (but_blocks e) base
  pub places : Places
  pub chain : List ℕ
  pub blocks : List ℕ
  pub chain_long : length chain ≡ ((entry_at base e.slot).size + 8191) / 8192
  pub blocks_long : length blocks ≡ ((entry_at base e.slot).size + 511) / 512
  pub numbers : (j : ℕ) → j < length blocks → slice_index blocks j < e.blocks
  pub short : length chain ≤ 1048576
  pub cut : IsCut e.blocks base disk e.header e.slot e.entry places chain blocks e.reached freed
  pub size : e.entry.size ≡ 0
  pub first : e.entry.first ≡ null
  pub files : e.header.files ≡ (header_on base).files

-- it waits for an index block
pub record IsCutRead (e : Files) (base disk : List ℕ) : Type 0 where
  pub cutting : IsCutting e (16 * e.reached) base disk
  pub below : e.reached < length cutting.chain
  pub at : e.at ≡ slice_index cutting.chain e.reached

-- the index block is to be written, freed
pub record IsCutWrite (e : Files) (base disk : List ℕ) : Type 0 where
  pub read : IsCutRead e base disk
  pub index : e.index ≡ index_for e.reached read.cutting.chain read.cutting.blocks
  pub put : IsIndexPut (block_in disk (block_of_index e.at)) (e.at % 7) (freed_index e.index e) e.block

-- a data block of the index block before is to be written, freed
pub record IsFreeWrite (e : Files) (b : ℕ) (base disk : List ℕ) : Type 0 where
  pub some : 0 < e.reached
  pub cutting : IsCutting e (16 * (e.reached - 1) + e.freed) base disk
  pub within : e.freed < 16
  pub most : e.reached ≤ length cutting.chain
  pub index : e.index ≡ index_for (e.reached - 1) cutting.chain cutting.blocks
  pub below : 16 * (e.reached - 1) + e.freed < length cutting.blocks
  pub here : b ≡ slice_index cutting.blocks (16 * (e.reached - 1) + e.freed)
  pub block : e.block ≡ word_block e.header.free_data
