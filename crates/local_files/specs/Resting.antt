-- The files at rest, and the blocks that a completion touches.
use Rattle.std.specs.Prelude.{ℕ, ◌≡◌, ◌≢◌, ◌<◌, Bool, true, false, List, [], ◌∷◌, length, Option, Some, None, is_some, IsSome}
use Rattle.lfs_check.specs.Rules.{block_in}
use Rattle.xinu_base.specs.Constants.{SYSERR}
use Rattle.xinu_model.specs.Files.Calls.{FileCall, Open, Close, Read, Getc, Seek, Size, file_effect}
use Rattle.xinu_model.specs.Files.Stored.{file_named}
use Rattle.xinu_model.specs.Files.Systems.{FileSystem, is_open}
use Rattle.xinu_model.specs.Files.Work.{FileRequest, FileWork}
use Rattle.xinu_model.specs.Files.Rest.{names_file}
use Rattle.local_files.specs.Hands.{system}
use Rattle.local_files.specs.Wanted.{block_of}
use Rattle.local_files.specs.Standing.{wanted, call_of, call_bytes}
use Rattle.local_files.specs.declared.BlockWork.{BlockWork}
use Rattle.local_files.specs.declared.Files.{Files}

-- Names of files at rest: none of them is open, and the call in hand names none of them.
pub record AreAtRest (e : Files) (base : List ℕ) (rests : List ℕ → Bool) : Type 0 where
  pub closed : (name : List ℕ) → rests name ≡ true → is_open name (system e base) ≡ false
  pub unnamed : (name : List ℕ) → rests name ≡ true → is_some (wanted e) ≡ true → names_file name (call_of e.call []) ≡ false

-- the call in hand, if there is one, is the first of the calls under way
abbrev pub IsFirstCall : Option BlockWork → FileCall → List FileRequest → Type 0
IsFirstCall None call calls = Unit {0}
IsFirstCall (Some w) call [] = ⊥
IsFirstCall (Some w) call (a ∷ calls) = a.call ≡ call

-- work on a block of a disk of this many blocks, if there is any
abbrev pub IsOnDisk : Option BlockWork → ℕ → Type 0
IsOnDisk None blocks = Unit {0}
IsOnDisk (Some w) blocks = block_of w < blocks

-- A disk is another one in at most one block.
pub record ChangesOneBlock (old new : List ℕ) : Type 0 where
  pub block : ℕ
  pub long : length new ≡ length old
  pub others : (m : ℕ) → m ≢ block → block_in new m ≡ block_in old m

-- The call in hand will be refused, as the files are on the disk on which it began.
abbrev pub WillBeRefused : Files → List ℕ → Type 0
WillBeRefused e base = (file_effect (call_of e.call (call_bytes e)) (call_bytes e) (system e base)).reply ≡ SYSERR

-- no call is under way, or the first of these will be refused
abbrev pub NothingToDo : List FileRequest → FileWork → Type 0
NothingToDo [] w = Unit {0}
NothingToDo (a ∷ calls) w = (file_effect a.call w.bytes w.system).reply ≡ SYSERR

-- A call that writes no file: it reads one, moves in it, tells its size or closes it, or opens one that is there.
abbrev pub OnlyReads : FileCall → FileSystem → Type 0
OnlyReads (Open name mode) s = IsSome (file_named name s.files)
OnlyReads (Close d) s = Unit {0}
OnlyReads (Read d n) s = Unit {0}
OnlyReads (Getc d) s = Unit {0}
OnlyReads (Seek d n) s = Unit {0}
OnlyReads (Size d) s = Unit {0}
OnlyReads _ s = ⊥

-- the first of these calls is one
abbrev pub FirstOnlyReads : List FileRequest → FileSystem → Type 0
FirstOnlyReads [] s = Unit {0}
FirstOnlyReads (a ∷ calls) s = OnlyReads a.call s

-- A good completion of the disk changes at most one block, and none if no call is under way or the first will be refused or writes no file.
pub record ServesDisk (w : FileWork) (old new : List ℕ) : Type 0 where
  pub one : ChangesOneBlock old new
  pub still : NothingToDo w.calls w → new ≡ old
  pub reads : FirstOnlyReads w.calls w.system → new ≡ old
