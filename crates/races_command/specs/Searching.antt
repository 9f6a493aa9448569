-- The search over accepted inputs: what it finds and sends, or why it ends before.
use Rattle.std.specs.Prelude.{◌≡◌, ◌≤◌, ◌⊎◌, ℕ, zero, suc, Bool, true, false, List, [], ◌∷◌, take, Option, Some, None, option_map, Result, Ok, Err}
use Rattle.std.specs.List.{slice_get}
use Rattle.command_line.specs.Reading.{Text}
use Rattle.host_port.specs.HostCalls.{Rose}
use Rattle.host_port.specs.Outside.{Outside, appended, counted, emptied_channel, grown, made_empty, naming, with_calls}
use Rattle.host_port.specs.declared.host.Channel.TheVariants.{Out, Image}
use Rattle.preemptions.specs.Placements.{placements}
use Rattle.preemptions.specs.Preempted.{preempted_at}
use Rattle.preemptions.specs.declared.stretches.Stretch.{Stretch}
use Rattle.race_runs.specs.Explored.{Explores, ExploresSome}
use Rattle.race_runs.specs.Forced.{AreForced}
use Rattle.race_tables.specs.Rows.{Row}
use Rattle.run_inputs.specs.declared.causes.Cause.TheVariants as cause
use Rattle.run_inputs.specs.declared.refusals.Refusal.TheVariants as refusal
use Rattle.schedule_text.specs.Written.{schedule_text}
use Rattle.xinu_base.specs.declared.events.Event.{Event}
use Rattle.xinu_model.specs.Boot.{Disks, Loaded, NoRoom, Overlaps, boot_on}
use Rattle.races_command.specs.Printed.{table_text}
use Rattle.races_command.specs.declared.faults.Fault.{Fault}
use Rattle.races_command.specs.declared.faults.Fault.TheVariants as fault
use denote.Ref.{Bor}

-- What is searched: the images that boot on the disks, the base's events, at most how many quantum ends are put in, and where, the
-- file for the schedule of a row, if one is named, and the number of that row.
pub record Searched : Type 0 where
  pub disks : Disks
  pub images : List Loaded
  pub base : List Event
  pub most : ℕ
  pub stretch : Stretch
  pub found : Option Text
  pub outcome : ℕ

-- the row with a number, counted from 1, if there is one
abbrev pub row_numbered : ℕ → List Row → Option Row
row_numbered zero table = None
row_numbered (suc place) table = slice_get table place

-- the file with the schedule of the row with a number: its name and its text, if one is named and there is such a row
abbrev pub found_file : Option Text → ℕ → List Event → List Row → Option (Text × List ℕ)
found_file None outcome base table = None
found_file (Some name) outcome base table = option_map (λ row. (name, schedule_text (preempted_at row.first base))) (row_numbered outcome table)

-- what the world is like once a file was written, if there is one
abbrev pub with_file : Outside → Option (Text × List ℕ) → Outside
with_file h None = h
with_file h (Some file) = appended (with_calls (made_empty h Image) (naming Image file.0 ∷ [])) Image file.1

-- All placements were gone through, and their table was sent: it says *every run* only if nothing was chosen.
pub record Finds (s : Searched) (old new : Outside) : Type 0 where
  pub table : List Row
  pub explores : Explores s.disks s.images s.base (placements s.most s.stretch) table
  pub are_forced : Bool
  pub forced : AreForced are_forced s.disks s.images s.base (placements s.most s.stretch)
  pub sent : new ≡ counted (with_file (appended old Out (table_text true are_forced s.most s.stretch s.base table)) (found_file s.found s.outcome s.base table)) new.faults

-- The table is that of all placements, or of the first of them.
abbrev pub IsTable : Bool → Searched → List Row → Type 0
IsTable true s table = Explores s.disks s.images s.base (placements s.most s.stretch) table
IsTable false s table = ExploresSome s.disks s.images s.base (placements s.most s.stretch) table

-- A file was named for a schedule and a prefix of its text written into it, or neither was done.
pub record WritesPart (file : Text × List ℕ) (old new : Outside) : Type 0 where
  pub image : (n : ℕ) × ((new.image ≡ old.image) ⊎ (new.image ≡ grown (emptied_channel old.image) (take n file.1)))
  pub calls : (n : ℕ) × (new.calls ≡ grown old.calls (take n (naming Image file.0 ∷ [])))

-- No file was named and none written, but for this one, if there is one.
abbrev pub MayWrite : Option (Text × List ℕ) → Outside → Outside → Type 0
MayWrite None old new = (new.image ≡ old.image) × (new.calls ≡ old.calls)
MayWrite (Some file) old new = WritesPart file old new

-- A prefix of a text was sent, and a prefix of a file written, if there is one. Nothing else changed, but the count of faults may have risen.
pub record SendsPart (text : List ℕ) (file : Option (Text × List ℕ)) (old new : Outside) : Type 0 where
  pub out : (n : ℕ) × (new.out ≡ grown old.out (take n text))
  pub written : MayWrite file old new
  pub fault : new.fault ≡ old.fault
  pub disk0 : new.disk0 ≡ old.disk0
  pub disk1 : new.disk1 ≡ old.disk1
  pub files : new.file ≡ old.file
  pub later : old.faults ≤ new.faults

-- Sending is broken off if memory runs out, or if the host fails, but then only if the count of faults rose.
abbrev pub IsBreak : Fault → ℕ → ℕ → Type 0
IsBreak (fault.Refused (cause.Refused refusal.NoMemory)) before after = Unit {0}
IsBreak (fault.Refused (cause.Refused refusal.HostFault)) before after = Rose before after
IsBreak fault before after = ⊥

-- Sending a text, and after it a file if there is one, was broken off.
pub record StopsIn (text : List ℕ) (file : Option (Text × List ℕ)) (fault : Fault) (old new : Outside) : Type 0 where
  pub sends : SendsPart text file old new
  pub cause : IsBreak fault old.faults new.faults

-- the file that is written after a table: there is none after one that isn't of all placements
abbrev pub file_after : Bool → Searched → List Row → Option (Text × List ℕ)
file_after true s table = found_file s.found s.outcome s.base table
file_after false s table = None

-- The search was broken off: a prefix of the table so far was sent, and of the file after it one written, if the table is of all placements.
pub record BreaksOff (s : Searched) (old new : Outside) : Type 0 where
  pub are_all : Bool
  pub table : List Row
  pub explores : IsTable are_all s table
  pub are_forced : Bool
  pub forced : AreForced are_forced s.disks s.images s.base (placements s.most s.stretch)
  pub sends : SendsPart (table_text are_all are_forced s.most s.stretch s.base table) (file_after are_all s table) old new

-- The search ended so. If the images don't boot, nothing was done; the host failed only if the count of faults rose, and a file that can't be written
-- is the one for the schedule of a row.
abbrev pub Searches : Searched → Option Fault → Outside → Outside → Type 0
Searches s None old new = Finds s old new
Searches s (Some (fault.Refused (cause.Refused refusal.NoMemory))) old new = BreaksOff s old new
Searches s (Some (fault.Refused (cause.Refused refusal.HostFault))) old new = BreaksOff s old new × Rose old.faults new.faults
Searches s (Some (fault.Refused (cause.Unwritten name))) old new = BreaksOff s old new × Rose old.faults new.faults × (s.found ≡ Some name.now)
Searches s (Some (fault.Refused (cause.Refused (refusal.Overlap i)))) old new = (boot_on s.disks s.images ≡ Overlaps i) × (new ≡ old)
Searches s (Some (fault.Refused (cause.Refused (refusal.NoRoom i)))) old new = (boot_on s.disks s.images ≡ NoRoom i) × (new ≡ old)
Searches s (Some fault) old new = ⊥

-- how a call ended
abbrev pub ended_by : {T : Type 0} → Result T Fault → Option Fault
ended_by (Ok x) = None
ended_by (Err fault) = Some fault

-- if the host failed while the file of this name was written, the file is named
abbrev pub unwritten : Option (Bor (List ℕ)) → Option Fault → Option Fault
unwritten (Some name) (Some (fault.Refused (cause.Refused refusal.HostFault))) = Some (fault.Refused (cause.Unwritten name))
unwritten found ended = ended
