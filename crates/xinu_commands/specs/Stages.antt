-- What the stages of a command promise one another: its arguments, its files, its output.
use Rattle.std.specs.Prelude.{◌≡◌, ◌≤◌, ℕ, List, [], ◌∷◌, true, Option, Some, None, Result, Ok, Err, is_some, if◌then◌else◌}
use Rattle.std.specs.List.{slice_get}
use Rattle.std.specs.Option.{option_map_or}
use Rattle.machine.specs.DiskBytes.{raw_bytes}
use Rattle.machine.specs.Printed.{Booted}
use Rattle.command_line.specs.Commands.{Command}
use Rattle.command_line.specs.DiskArgs.{DiskAction, Mkfs, Put}
use Rattle.command_line.specs.Reading.{Text}
use Rattle.command_line.specs.RunArgs.{DiskFiles}
use Rattle.given_disks.specs.HeldFiles.{HoldsFiles}
use Rattle.host_port.specs.HostCalls.{Rose}
use Rattle.host_port.specs.Outside.{Outside, HostCall, naming}
use Rattle.host_port.specs.declared.host.Channel.{Channel}
use Rattle.host_port.specs.declared.host.Channel.TheVariants.{Out, Fault, Disk0, Disk1, Image}
use Rattle.lfs_layout.specs.Files.{files_of, is_text, listing}
use Rattle.xinu_commands.specs.Calls.{Due, calls_due, due_by, run_outputs, source_fetches}
use Rattle.xinu_commands.specs.DiskVerdict.{file_line, put_verdict}
use Rattle.xinu_commands.specs.Theorem.{Carries, HasCalled, IsPartSent, IsSent, IsUnsent, Obeys}
use Rattle.run_inputs.specs.InputFiles.{file_bytes}
use Rattle.xinu_commands.specs.Verdict.{verdict}
use Rattle.xinu_commands.specs.Work.{Left, Output, Verdict, output_of}
use Rattle.run_inputs.specs.declared.refusals.Refusal.{Refusal}
use Rattle.run_inputs.specs.declared.refusals.Refusal.TheVariants as refusal

-- The files and what was sent on Fault stayed as they were, and the count of faults didn't fall.
pub record KeepsFiles (old new : Outside) : Type 0 where
  pub file : new.file ≡ old.file
  pub fault : new.fault ≡ old.fault
  pub later : old.faults ≤ new.faults

-- what a machine has of a run when it is left
abbrev pub left_by : Booted → Left
left_by m = record { state = m.state; disk1 = m.image }

-- what a machine that was left has, if there is one
abbrev pub left_of : Result Booted Refusal → Option Left
left_of (Ok m) = Some (left_by m)
left_of (Err cause) = None

-- ---- the stages of `asm` and of an action on a disk

-- a number of blocks that a disk can have
pub record IsBlockCount (blocks : ℕ) : Type 0 where
  pub low : 14 ≤ blocks
  pub high : blocks ≤ 65542

-- what arguments make sure of: a disk can have so many blocks, and a file on a disk this name
abbrev pub IsPossible : DiskAction → Type 0
IsPossible (Mkfs blocks out) = IsBlockCount blocks
IsPossible (Put image name source out) = is_text name ≡ true
IsPossible _ = Unit {0}

-- What a host did for this end: it failed only if the count of faults rose; memory may run out at any time.
abbrev pub IsHostCause : Option Refusal → Outside → Outside → Type 0
IsHostCause None old new = Unit {0}
IsHostCause (Some refusal.HostFault) old new = Rose old.faults new.faults
IsHostCause (Some refusal.NoMemory) old new = Unit {0}
IsHostCause (Some _) old new = ⊥

-- one file to be fetched
abbrev pub fetch_due : Text → Due
fetch_due name = record { fetches = name ∷ []; outputs = [] }

-- A file was fetched, or the host refused it. Nothing was sent.
pub record Fetches (name : List ℕ) (ended : Option Refusal) (old new : Outside) : Type 0 where
  pub unsent : IsUnsent old new
  pub cause : IsHostCause ended old new
  pub calls : HasCalled (fetch_due name) ended old new
  pub keeps : KeepsFiles old new

-- the line of the file at a place in the order of names, if a disk has one
unfoldable pub line_at : ℕ → List ℕ → List ℕ
line_at k disk = option_map_or file_line (slice_get (listing (files_of disk)) k) []

-- bytes on one channel: on one that has a file, as those of the file
abbrev pub output_on : Channel → List ℕ → Output
output_on Out bytes = output_of bytes None None
output_on Fault bytes = output_of [] None None
output_on Disk0 bytes = record (output_of [] None None) { disk0 = Some bytes }
output_on Disk1 bytes = output_of [] (Some bytes) None
output_on Image bytes = output_of [] None (Some bytes)

-- a disk of a run, on its channel
abbrev pub disks_output : Option (List ℕ) → Option (List ℕ) → Output
disks_output disk0 disk1 = record { status = 0; out = []; disk0 = disk0; disk1 = disk1; image = None }

-- files to be written, when none is to be fetched
abbrev pub outputs_due : List HostCall → Due
outputs_due outputs = record { fetches = []; outputs = outputs }

-- An output was sent, after these calls: all of it, or a part of it up to a refusal of the host.
pub record SendsOutput (output : Output) (outputs : List HostCall) (ended : Option Refusal) (old new : Outside) : Type 0 where
  pub part : IsPartSent output old new
  pub whole : ended ≡ None → IsSent output old new
  pub cause : IsHostCause ended old new
  pub calls : HasCalled (outputs_due outputs) ended old new
  pub keeps : KeepsFiles old new

-- The disks of a machine were written, each if a file is named for it. That with files holds the files of the state.
pub record SendsDisks (d : DiskFiles) (m : Left) (ended : Option Refusal) (old new : Outside) : Type 0 where
  pub held : HoldsFiles m.disk1 m.state.parts.devices.files
  pub sends : SendsOutput (disks_output (if is_some d.out0 then Some (raw_bytes m.state) else None) (if is_some d.out1 then Some m.disk1 else None)) (run_outputs d) ended old new

-- What is left of a command with this verdict was carried out: these files were fetched, as far as the verdict lets them be, and these
-- written.
pub record Stage (v : Verdict) (fetches : Verdict → List Text) (outputs : List HostCall) (ended : Option Refusal) (left : Option Left) (old new : Outside) : Type 0 where
  pub carries : Carries v ended left old new
  pub calls : HasCalled (due_by fetches outputs v) ended old new
  pub keeps : KeepsFiles old new

-- no file is left to be fetched
abbrev pub no_fetches : Verdict → List Text
no_fetches v = []

-- A file was fetched and then set on a disk, for some bytes of it if it can't be observed.
pub record SetsFile (disk name source out : List ℕ) (ended : Option Refusal) (old new : Outside) : Type 0 where
  pub unseen : List ℕ
  pub stage : Stage (put_verdict name (file_bytes (old.file source) unseen) disk) (source_fetches source) (naming Disk1 out ∷ []) ended None old new

-- A command was carried out.
pub record Performs (command : Option Command) (ended : Option Refusal) (left : Option Left) (old new : Outside) : Type 0 where
  pub obeys : Obeys command ended left old new
  pub calls : HasCalled (calls_due command (verdict command old.file obeys.unseen)) ended old new
  pub keeps : KeepsFiles old new
