-- What the exit statuses say of a command's files.
use Rattle.std.specs.Prelude.{◌≡◌, ◌↔◌, ◌≤◌, ◌<◌, ◌⊎◌, ℕ, true, false, List, [], ◌∷◌, length, Option, Some, None, IsSome, option_map}
use Rattle.std.specs.Option.{option_or}
use Rattle.command_line.specs.DiskArgs.{DiskAction, Mkfs, Ls, Get, Put, Check, Repair}
use Rattle.command_line.specs.Reading.{Text}
use Rattle.given_disks.specs.Disks.{disks_of}
use Rattle.lfs_check.specs.declared.faults.DiskFault.{DiskFault}
use Rattle.lfs_layout.specs.Images.{opened}
use Rattle.rv_asm.specs.Assembly.{Makes, Fails, assembly}
use Rattle.rv_asm.specs.declared.faults.AsmFault.{AsmFault}
use Rattle.schedule_file.specs.ScheduleFiles.{events_in}
use Rattle.transcript_laws.specs.Transcripts.{IsText}
use Rattle.xinu_base.specs.declared.events.Event.{Event}
use Rattle.xinu_model.specs.Boot.{Disks, Loaded, Start, Boots, Overlaps, NoRoom, boot_on}
use Rattle.xinu_model.specs.Machine.{Xinu}
use Rattle.xinu_commands.specs.AsmVerdict.{longest_source}
use Rattle.run_inputs.specs.InputDisks.{disk_fault, raw_broken, raw_fault, rule_broken}
use Rattle.xinu_commands.specs.DiskVerdict.{disk_with, file_on, size_fault}
use Rattle.run_inputs.specs.InputFaults.{have_fault, images_loaded, schedule_fault}
use Rattle.run_inputs.specs.Refusals.{status_of}
use Rattle.xinu_commands.specs.TraceVerdict.{longest_trace}
use Rattle.xinu_commands.specs.Verdict.{Input, DiskInput, SourceInput}
use Rattle.xinu_commands.specs.Work.{Verdict, Refuses, Does, Judges}
use Rattle.run_inputs.specs.declared.refusals.Refusal.{Refusal}

-- the exit statuses
abbrev pub statuses : List ℕ
statuses = 0 ∷ 2 ∷ 3 ∷ 4 ∷ 5 ∷ 6 ∷ 7 ∷ 8 ∷ 9 ∷ 10 ∷ 11 ∷ 12 ∷ 13 ∷ []

-- the exit status that a verdict calls for
abbrev pub status_due : Verdict → ℕ
status_due (Refuses cause) = status_of cause
status_due (Does (Judges false)) = 10
status_due (Does work) = 0

-- why a disk of a run is refused, the raw one first
unfoldable pub disks_fault : List ℕ → List ℕ → Option Refusal
disks_fault disk0 disk1 = option_or (option_map raw_broken (raw_fault disk0)) (option_map rule_broken (disk_fault disk1))

-- how the machine starts on disks with the images of files, if each of them loads
unfoldable pub start_with : Disks → List (List ℕ) → Option Start
start_with disks files = option_map (boot_on disks) (images_loaded files)

-- These files are images with which the machine starts.
pub record CanStart (disks : Disks) (files : List (List ℕ)) : Type 0 where
  pub good : have_fault files ≡ false
  pub start : Xinu
  pub boots : start_with disks files ≡ Some (Boots start)

-- These files are images, and one overlaps an earlier one, or the heap after them has no room for the stack of one.
pub record CannotStart (disks : Disks) (files : List (List ℕ)) : Type 0 where
  pub good : have_fault files ≡ false
  pub image : ℕ
  pub start : (start_with disks files ≡ Some (Overlaps image)) ⊎ (start_with disks files ≡ Some (NoRoom image))

-- The schedule and the disks of a run are accepted.
pub record AreAccepted (events disk0 disk1 : List ℕ) : Type 0 where
  pub schedule : schedule_fault events ≡ None
  pub disks : disks_fault disk0 disk1 ≡ None

-- What the exit status of a run says of its schedule file, its disks and its image files, if it is neither 3 nor 7.
pub record SaysOfFiles (exit : ℕ) (schedule disk0 disk1 : List ℕ) (images : List (List ℕ)) : Type 0 where
  pub done : exit ≡ 0 ↔ (AreAccepted schedule disk0 disk1 × CanStart (disks_of disk0 (opened disk1)) images)
  pub bad_schedule : exit ≡ 5 ↔ IsSome (schedule_fault schedule)
  pub bad_disk : exit ≡ 6 ↔ ((schedule_fault schedule ≡ None) × IsSome (disks_fault disk0 disk1))
  pub bad_image : exit ≡ 4 ↔ (AreAccepted schedule disk0 disk1 × (have_fault images ≡ true))
  pub no_start : exit ≡ 8 ↔ (AreAccepted schedule disk0 disk1 × CannotStart (disks_of disk0 (opened disk1)) images)

-- ---- a trace

-- A trace is the transcript of a run of the images in files through the events of a schedule.
pub record IsTraceOf (disks : Disks) (schedule : List ℕ) (files : List (List ℕ)) (trace : List ℕ) : Type 0 where
  pub events : List Event
  pub images : List Loaded
  pub reads : events_in schedule ≡ Some events
  pub loads : images_loaded files ≡ Some images
  pub text : IsText disks images events trace

-- The inputs are accepted, and so is the length of the trace.
pub record AreFetched (schedule disk0 disk1 : List ℕ) (images : List (List ℕ)) (trace : List ℕ) : Type 0 where
  pub accepted : AreAccepted schedule disk0 disk1
  pub good : have_fault images ≡ false
  pub short : length trace ≤ longest_trace

-- What the exit status of a check says of its inputs and of its trace, if it is neither 3 nor 7.
pub record SaysOfTrace (exit : ℕ) (schedule disk0 disk1 : List ℕ) (images : List (List ℕ)) (trace : List ℕ) : Type 0 where
  pub yes : exit ≡ 0 ↔ (AreFetched schedule disk0 disk1 images trace × IsTraceOf (disks_of disk0 (opened disk1)) schedule images trace)
  pub no : exit ≡ 10 ↔ (AreFetched schedule disk0 disk1 images trace × CanStart (disks_of disk0 (opened disk1)) images
      × (IsTraceOf (disks_of disk0 (opened disk1)) schedule images trace → ⊥))
  pub too_long : exit ≡ 11 ↔ (AreAccepted schedule disk0 disk1 × (have_fault images ≡ false) × (longest_trace < length trace))
  pub bad_schedule : exit ≡ 5 ↔ IsSome (schedule_fault schedule)
  pub bad_disk : exit ≡ 6 ↔ ((schedule_fault schedule ≡ None) × IsSome (disks_fault disk0 disk1))
  pub bad_image : exit ≡ 4 ↔ (AreAccepted schedule disk0 disk1 × (have_fault images ≡ true))
  pub no_start : exit ≡ 8 ↔ (AreFetched schedule disk0 disk1 images trace × CannotStart (disks_of disk0 (opened disk1)) images)

-- ---- a source

-- A source isn't too long, and it is assembled to a file.
pub record IsAssembled (source : List ℕ) : Type 0 where
  pub short : length source ≤ longest_source
  pub file : List ℕ
  pub makes : assembly source ≡ Makes file

-- A source is too long, or it has a fault.
abbrev pub HasFault : List ℕ → Type 0
HasFault source = (longest_source < length source) ⊎ ((fault : AsmFault) × (assembly source ≡ Fails fault))

-- What the exit status of `asm` says of its source, if it is neither 3 nor 7.
pub record SaysOfSource (exit : ℕ) (source : List ℕ) : Type 0 where
  pub done : exit ≡ 0 ↔ IsAssembled source
  pub bad_source : exit ≡ 9 ↔ HasFault source

-- ---- actions on a disk

-- the rule that the disk of an action breaks: of a disk that is repaired rule 0 alone
abbrev pub action_fault : DiskAction → (Input → Text → List ℕ) → Option DiskFault
action_fault (Mkfs blocks out) held = None
action_fault (Ls image) held = disk_fault (held DiskInput image)
action_fault (Get image name out) held = disk_fault (held DiskInput image)
action_fault (Put image name source out) held = disk_fault (held DiskInput image)
action_fault (Check image) held = disk_fault (held DiskInput image)
action_fault (Repair image out) held = size_fault (held DiskInput image)

-- An action asks for a file that its disk doesn't have.
abbrev pub LacksFile : DiskAction → (Input → Text → List ℕ) → Type 0
LacksFile (Get image name out) held = file_on name (opened (held DiskInput image)) ≡ None
LacksFile _ held = ⊥

-- An action sets a file for which its disk has no room.
abbrev pub LacksRoom : DiskAction → (Input → Text → List ℕ) → Type 0
LacksRoom (Put image name source out) held = disk_with name (held SourceInput source) (opened (held DiskInput image)) ≡ None
LacksRoom _ held = ⊥

-- What the exit status of an action says of its files, if it is neither 3 nor 7.
pub record SaysOfDisk (exit : ℕ) (action : DiskAction) (held : Input → Text → List ℕ) : Type 0 where
  pub done : exit ≡ 0 ↔ ((action_fault action held ≡ None) × (LacksFile action held → ⊥) × (LacksRoom action held → ⊥))
  pub bad_disk : exit ≡ 6 ↔ IsSome (action_fault action held)
  pub no_file : exit ≡ 12 ↔ ((action_fault action held ≡ None) × LacksFile action held)
  pub no_room : exit ≡ 13 ↔ ((action_fault action held ≡ None) × LacksRoom action held)
