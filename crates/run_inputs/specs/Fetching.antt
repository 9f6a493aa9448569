-- What fetching files does: the calls are noted, and but for the count of faults nothing else changes.
use Rattle.std.specs.Prelude.{◌≡◌, ◌≤◌, ◌+◌, ℕ, zero, suc, List, [], ◌∷◌, ◌++◌, map, take, Option, Some, None, Result, Ok, Err}
use Rattle.command_line.specs.Reading.{Text}
use Rattle.host_port.specs.HostCalls.{Rose}
use Rattle.host_port.specs.Outside.{Outside, counted, fetching, with_calls}
use Rattle.run_inputs.specs.InputFiles.{InputFiles, file_bytes, if_named}
use Rattle.run_inputs.specs.Judging.{Judged, Refused}
use Rattle.run_inputs.specs.declared.refusals.Refusal.{Refusal}
use Rattle.run_inputs.specs.declared.refusals.Refusal.TheVariants as refusal

-- the refusal with which something ended
abbrev pub refusal_of : {T : Type 0} → Result T Refusal → Option Refusal
refusal_of (Ok x) = None
refusal_of (Err cause) = Some cause

-- It was done, or refused for what it was given: neither did the host fail nor memory run out.
abbrev pub IsDecided : Option Refusal → Type 0
IsDecided (Some refusal.HostFault) = ⊥
IsDecided (Some refusal.NoMemory) = ⊥
IsDecided _ = Unit {0}

-- The host failed, or memory ran out.
abbrev pub IsOfHost : Refusal → Type 0
IsOfHost refusal.HostFault = Unit {0}
IsOfHost refusal.NoMemory = Unit {0}
IsOfHost _ = ⊥

-- These files were fetched in order: all of them, or if the host failed or memory ran out the first ones. But for the noted calls and the count of
-- faults nothing changed, and the host failed only if that count rose.
pub record FetchesFiles (names : List Text) (ended : Option Refusal) (old new : Outside) : Type 0 where
  pub made : List Text
  pub rest : List Text
  pub parts : names ≡ made ++ rest
  pub only : new ≡ counted (with_calls old (map fetching made)) new.faults
  pub later : old.faults ≤ new.faults
  pub all : IsDecided ended → rest ≡ []
  pub failed : ended ≡ Some refusal.HostFault → Rose old.faults new.faults

-- These bytes were fetched of a file: its first ones, up to one more than this many.
pub record IsFetched (most : ℕ) (file : Option (List ℕ)) (bytes : List ℕ) : Type 0 where
  pub front : bytes ≡ take (most + 1) (file_bytes file bytes)

-- These bytes were fetched of a file, if one is named.
abbrev pub MayBeFetched : ℕ → Option Text → (Text → Option (List ℕ)) → Option (List ℕ) → Type 0
MayBeFetched most None file bytes = bytes ≡ None
MayBeFetched most (Some name) file None = ⊥
MayBeFetched most (Some name) file (Some bytes) = IsFetched most (file name) bytes

-- the files of the raw disk and of the disk with files, up to disk d
abbrev pub disks_up_to : ℕ → InputFiles → List Text
disks_up_to zero f = if_named f.disk0
disks_up_to (suc n) f = if_named f.disk0 ++ if_named f.disk1

-- The inputs are fetched in order, the schedule, then the disks, and then the images, which are counted from 1: up to the file that is refused, or
-- else all of them.
abbrev pub fetches_due : InputFiles → Judged → List Text
fetches_due f (Refused (refusal.Schedule l)) = f.schedule ∷ []
fetches_due f (Refused (refusal.Disk d b rule)) = f.schedule ∷ disks_up_to d f
fetches_due f (Refused (refusal.Image i fault)) = f.schedule ∷ disks_up_to 1 f ++ take i f.images
fetches_due f _ = f.schedule ∷ disks_up_to 1 f ++ f.images
