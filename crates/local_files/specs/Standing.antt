-- What the file engine stands for, together with a disk, and what its completions do.
use Rattle.std.specs.Prelude.{ℕ, ◌≡◌, ◌≢◌, ◌*◌, ◌%◌, List, [], length, take, Option, Some, None, slice_index_or, ℤ}
use Rattle.lfs_check.specs.Disks.{block_put}
use Rattle.lfs_check.specs.Rules.{block_in}
use Rattle.lfs_layout.specs.Files.{bare_name}
use Rattle.lfs_layout.specs.Images.{IsCleanImage}
use Rattle.xinu_model.specs.Files.Calls as model
use Rattle.xinu_model.specs.Files.Systems.{FileSystem, FileEffect}
use Rattle.local_files.specs.Steps.{at_byte}
use Rattle.local_files.specs.Wanted.{block_for}
use Rattle.local_files.specs.Hands.{system, IsDevice, AreApart, put_bytes, IsSearch, IsWalking, IsFetching, IsCutRead, IsCutWrite, IsFreeWrite, IsClosing, IsEntryWrite, IsHeaderRead, IsHeaderWrite}
use Rattle.local_files.specs.Putting.{IsCounting, IsReach, IsPatch, IsPatched, IsTake, IsTakeWrite, IsFilled, IsAddWrite, IsNewWrite, IsLink, IsLinkWrite}
use Rattle.local_files.specs.declared.BlockWork.{BlockWork}
use Rattle.local_files.specs.declared.BlockWork.TheVariants as work
use Rattle.local_files.specs.declared.OpenFile.{OpenFile}
use Rattle.local_files.specs.declared.FileCall.{FileCall}
use Rattle.local_files.specs.declared.FileCall.TheVariants.{Open, Delete, Close, Read, Write, Getc, Putc, Seek, Truncate, Size}
use Rattle.local_files.specs.declared.Phase.{Phase}
use Rattle.local_files.specs.declared.Phase.TheVariants.{Idle, Done, Wants}
use Rattle.local_files.specs.declared.Purpose.{Purpose}
use Rattle.local_files.specs.declared.Purpose.TheVariants.{Search, Walk, Fetch, Counts, Reach, PatchRead, PatchWrite, TakeRead, TakeWrite, AddRead, AddWrite, NewRead, NewWrite, LinkRead, LinkWrite, CutRead, CutWrite, FreeWrite, EntryRead, EntryWrite, HeaderRead, HeaderWrite}
use Rattle.local_files.specs.declared.Files.{Files}

-- The call as the abstract machine has it, with the bytes that a write puts.
abbrev pub call_of : FileCall → List ℕ → model.FileCall
call_of (Open name mode) bytes = model.Open (bare_name name) mode
call_of (Delete name) bytes = model.Delete (bare_name name)
call_of (Close d) bytes = model.Close d
call_of (Read d n) bytes = model.Read d n
call_of (Write d) bytes = model.Write d (length bytes)
call_of (Getc d) bytes = model.Getc d
call_of (Putc d b) bytes = model.Putc d b
call_of (Seek d n) bytes = model.Seek d n
call_of (Truncate d) bytes = model.Truncate d
call_of (Size d) bytes = model.Size d

-- the bytes that belong to a call: those of a write
abbrev pub given_bytes : FileCall → List ℕ → List ℕ
given_bytes (Write d) bytes = bytes
given_bytes _ bytes = []

-- the bytes that the call in hand writes
abbrev pub call_bytes : Files → List ℕ
call_bytes e = given_bytes e.call (put_bytes e)

-- the bytes that a call which is done has given
abbrev pub gathered : Files → List ℕ
gathered e = take e.counters.given e.buffer

-- What is so while a block is wanted for a purpose.
abbrev pub IsWanted : Purpose → Files → List ℕ → List ℕ → Type 0
IsWanted (Search d) e base disk = IsSearch e d base disk
IsWanted (Walk rest at) e base disk = IsWalking e rest at base disk
IsWanted (Fetch b) e base disk = IsFetching e b base disk
IsWanted Counts e base disk = IsCounting e base disk
IsWanted (Reach rest at) e base disk = IsReach e rest at base disk
IsWanted (PatchRead b) e base disk = IsPatch e b base disk
IsWanted (PatchWrite b) e base disk = IsPatched e b base disk
IsWanted (TakeRead b) e base disk = IsTake e b base disk
IsWanted (TakeWrite b) e base disk = IsTakeWrite e b base disk
IsWanted (AddRead b) e base disk = IsFilled e b base disk × (at_byte e % 8192 ≢ 0)
IsWanted (AddWrite b) e base disk = IsAddWrite e b base disk
IsWanted (NewRead b i) e base disk = IsFilled e b base disk × ((at_byte e % 8192 ≡ 0) × (e.header.free_index ≡ i))
IsWanted (NewWrite b i) e base disk = IsNewWrite e b i base disk
IsWanted (LinkRead b i) e base disk = IsLink e b i base disk
IsWanted (LinkWrite b i) e base disk = IsLinkWrite e b i base disk
IsWanted CutRead e base disk = IsCutRead e base disk
IsWanted CutWrite e base disk = IsCutWrite e base disk
IsWanted (FreeWrite b) e base disk = IsFreeWrite e b base disk
IsWanted EntryRead e base disk = IsClosing e base disk
IsWanted EntryWrite e base disk = IsEntryWrite e base disk
IsWanted HeaderRead e base disk = IsHeaderRead e base disk
IsWanted HeaderWrite e base disk = IsHeaderWrite e base disk

-- What is so while the engine waits: without a call in hand the disk is as it was.
abbrev pub InHand : Phase → Files → List ℕ → List ℕ → Type 0
InHand (Wants purpose) e base disk = IsWanted purpose e base disk
InHand _ e base disk = disk ≡ base

-- On a clean base of n blocks the devices have different files open.
pub record AreOpenOn (n : ℕ) (devices : List (Option OpenFile)) (base : List ℕ) : Type 0 where
  pub clean : IsCleanImage base
  pub blocks : length base ≡ 512 * n
  pub six : length devices ≡ 6
  pub device : (d : ℕ) → IsDevice base (slice_index_or devices d None)
  pub apart : (c d : ℕ) → c ≢ d → AreApart (slice_index_or devices c None) (slice_index_or devices d None)

-- What the engine has of a disk, whatever it waits for: the open files, the disk's size, and room for a block and for the bytes of a call.
pub record HasDisk (n : ℕ) (devices : List (Option OpenFile)) (out bytes base disk : List ℕ) : Type 0 where
  pub opened : AreOpenOn n devices base
  pub open opened use *
  pub whole : length disk ≡ length base
  pub outgoing : length out ≡ 512
  pub buffer : length bytes ≡ 1048576

-- the same of the engine
abbrev pub IsStanding : Files → List ℕ → List ℕ → Type 0
IsStanding e base disk = HasDisk e.blocks e.devices e.block e.buffer base disk

-- The engine stands for a disk as it was when the call in hand began, together with the disk as it is.
pub record Stands (e : Files) (base disk : List ℕ) : Type 0 where
  pub standing : IsStanding e base disk
  pub open standing use *
  pub hand : InHand e.phase e base disk

-- the work that is wanted
abbrev pub wanted_in : Phase → Files → Option BlockWork
wanted_in (Wants purpose) e = Some (block_for purpose e)
wanted_in _ e = None

-- the same of the engine
abbrev pub wanted : Files → Option BlockWork
wanted e = wanted_in e.phase e

-- the disk after it
abbrev pub served_by : Option BlockWork → List ℕ → List ℕ → List ℕ
served_by (Some (work.Write n)) block disk = block_put disk n block
served_by _ block disk = disk

-- the same of the engine
abbrev pub served : Files → List ℕ → List ℕ
served e disk = served_by (wanted e) e.block disk

-- what is read is the block of the disk
abbrev pub IsHonestFor : Option BlockWork → List ℕ → List ℕ → Type 0
IsHonestFor (Some (work.Read n)) read disk = read ≡ block_in disk n
IsHonestFor _ read disk = Unit {0}

-- the same of the engine
abbrev pub IsHonest : Files → List ℕ → List ℕ → Type 0
IsHonest e read disk = IsHonestFor (wanted e) read disk

-- the effect of a call, with its reply, from one file system to another
abbrev pub HasEffect : FileCall → List ℕ → FileSystem → ℤ → List ℕ → FileSystem → Type 0
HasEffect call bytes before reply given after =
    ◌≡◌ {A = FileEffect} (model.file_effect (call_of call bytes) bytes before) (record { system = after; reply = reply; bytes = given })

-- The files stay as they are and the call is still in hand, or it has its effect and its reply.
abbrev pub GoesTo : Phase → FileCall → List ℕ → Files → Files → List ℕ → List ℕ → Type 0
GoesTo (Done reply) call bytes old new base disk =
    HasEffect call bytes (system old base) reply (gathered new) (system new disk) × Stands new disk disk
GoesTo Idle call bytes old new base disk = ⊥
GoesTo (Wants purpose) call bytes old new base disk = Stands new base disk × (new.call ≡ call) × (call_bytes new ≡ bytes)
    × (system new base ≡ system old base)

-- the reply, once it stands
abbrev pub reply_in : Phase → Option ℤ
reply_in (Done reply) = Some reply
reply_in _ = None

-- the engine once its answer is taken
abbrev pub taken_in : Phase → Files → Files
taken_in (Done reply) e = record e { phase = Idle }
taken_in _ e = e
