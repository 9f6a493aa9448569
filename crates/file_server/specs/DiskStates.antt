-- What is seen of a disk with the file engine that works on it.
use Rattle.std.specs.Prelude.{ℕ, ◌≡◌, ◌≤◌, List, [], ◌∷◌, Option, Some, None, ℤ}
use Rattle.xinu_model.specs.Files.Calls.{FileCall, file_effect}
use Rattle.xinu_model.specs.Files.Sound.{InRam}
use Rattle.xinu_model.specs.Files.Systems.{FileSystem, FileEffect}
use Rattle.xinu_model.specs.Files.Work.{FileRequest, most_turns}

-- A call that waits for a block of the disk: the call, the bytes that it writes, and how many completions it has left at most.
pub record HeldCall : Type 0 where
  pub call : FileCall
  pub bytes : List ℕ
  pub left : ℕ

-- The file system, the call that waits, if one does; the bytes that the call before it has given; and the bytes of the disk.
pub record DiskState : Type 0 where
  pub system : FileSystem
  pub hand : Option HeldCall
  pub given : List ℕ
  pub image : List ℕ

-- the bytes of the write that waits
abbrev pub bytes_held : Option HeldCall → List ℕ
bytes_held None = []
bytes_held (Some h) = h.bytes

-- A call waits, with a completion left and at most so many, and the files are as before it.
pub record Waits (call : FileCall) (bytes : List ℕ) (most : ℕ) (old new : DiskState) : Type 0 where
  pub left : ℕ
  pub hand : new.hand ≡ Some (record { call = call; bytes = bytes; left = left })
  pub some : 1 ≤ left
  pub bound : left ≤ most
  pub system : new.system ≡ old.system

-- A call has its effect and this reply, and none waits.
pub record IsDone (call : FileCall) (bytes : List ℕ) (reply : ℤ) (old new : DiskState) : Type 0 where
  pub effect : ◌≡◌ {A = FileEffect} (file_effect call bytes old.system) (record { system = new.system; reply = reply; bytes = new.given })
  pub hand : new.hand ≡ None

-- the call that waits is the first of the calls under way; none waits if and only if there are none
abbrev pub IsFirstHeld : Option HeldCall → List FileRequest → Type 0
IsFirstHeld None [] = Unit {0}
IsFirstHeld None (a ∷ calls) = ⊥
IsFirstHeld (Some h) [] = ⊥
IsFirstHeld (Some h) (a ∷ calls) = a.call ≡ h.call

-- a call whose bytes are in RAM has fewer turns than a word counts
abbrev pub HasFewTurns : FileSystem → Type 0
HasFewTurns s = (call : FileCall) (at : ℕ) → InRam call at → most_turns call s ≤ 4294967295
