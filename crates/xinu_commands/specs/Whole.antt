-- The whole on one page: a machine boots, takes events and prints a text, and this is what the program promises of it. Read it from top to bottom,
-- and then `Happens` in Events.antt of the crate xinu_model, which says what an event may do.
use Rattle.std.specs.Prelude.{◌≡◌, ◌≢◌, ◌⊎◌, ℕ, Bool, List, take, Option, Some, None, if◌then◌else◌}
use Rattle.command_line.specs.RunArgs.{RunFiles}
use Rattle.given_disks.specs.Disks.{disks_of}
use Rattle.given_disks.specs.HeldFiles.{HoldsFiles}
use Rattle.host_port.specs.Outside.{Outside, grown}
use Rattle.lfs_layout.specs.Images.{opened}
use Rattle.machine.specs.DiskBytes.{raw_bytes}
use Rattle.run_inputs.specs.InputDisks.{empty_disk0, empty_disk1}
use Rattle.run_inputs.specs.InputFaults.{images_loaded}
use Rattle.run_inputs.specs.InputFiles.{disk_bytes, file_bytes, image_bytes}
use Rattle.schedule_file.specs.ScheduleFiles.{events_in}
use Rattle.transcript_laws.specs.Transcripts.{transcript}
use Rattle.xinu_base.specs.declared.events.End.{End}
use Rattle.xinu_base.specs.declared.events.Event.{Event}
use Rattle.xinu_base.specs.declared.lines.TranscriptLine.{TranscriptLine}
use Rattle.xinu_commands.specs.Statuses.{AreAccepted}
use Rattle.xinu_commands.specs.Theorem.{IsWhole}
use Rattle.xinu_commands.specs.Verdict.{Input, ScheduleInput, Disk0Input, Disk1Input, ImageInput, wanted_of}
use Rattle.xinu_commands.specs.Work.{Left, Wanted}
use Rattle.xinu_model.specs.Boot.{Boots, Loaded, boot_on}
use Rattle.xinu_model.specs.Machine.{Xinu}
use Rattle.xinu_model.specs.Runs.{RunsTo}
use Rattle.xinu_model.specs.Text.{shown}

-- What a run is given: the bytes of its schedule, of its two disks, and of its images.
pub record Given : Type 0 where
  pub schedule : List ℕ
  pub disk0 : List ℕ
  pub disk1 : List ℕ
  pub images : List (List ℕ)

-- Boot. The schedule is a list of events, the disks break no rule, the images load, and the machine starts with them on the disks.
pub record IsBooted (g : Given) (events : List Event) (start : Xinu) : Type 0 where
  pub accepted : AreAccepted g.schedule g.disk0 g.disk1
  pub reads : events_in g.schedule ≡ Some events
  pub images : List Loaded
  pub loads : images_loaded g.images ≡ Some images
  pub boots : boot_on (disks_of g.disk0 (opened g.disk1)) images ≡ Boots start

-- Events and text. The machine takes the events one by one, until they end, no process is left, or the kernel panics, and comes to its last
-- state. The text is the transcript: the first process, the lines of the events, the tables, and why it ended; or if it is to be plain what the
-- console sent.
pub record IsRunOf (g : Given) (plain : Bool) (text : List ℕ) (last : Xinu) : Type 0 where
  pub events : List Event
  pub start : Xinu
  pub booted : IsBooted g events start
  pub lines : List TranscriptLine
  pub end : End
  pub runs : RunsTo start events lines last end
  pub is : text ≡ shown plain (transcript start lines last end)

-- The text of a run was sent, and each disk for which a file is named is that of its last state: block for block, or with the same files.
pub record SendsRun (g : Given) (wanted : Wanted) (old new : Outside) (left : Option Left) : Type 0 where
  pub text : List ℕ
  pub last : Left
  pub run : IsRunOf g wanted.plain text last.state
  pub holds : HoldsFiles last.disk1 last.state.parts.devices.files
  pub out : new.out ≡ grown old.out text
  pub disk0 : IsWhole (if wanted.out0 then Some (raw_bytes last.state) else None) old.disk0 new.disk0
  pub disk1 : IsWhole (if wanted.out1 then Some last.disk1 else None) old.disk1 new.disk1
  pub is_left : left ≡ Some last

-- No text was sent, or the beginning of that of a run.
abbrev pub SendsBeginning : Given → Wanted → Outside → Outside → Type 0
SendsBeginning g wanted old new =
    (new.out ≡ old.out) ⊎ ((text : List ℕ) × (last : Xinu) × IsRunOf g wanted.plain text last × ((n : ℕ) × (new.out ≡ grown old.out (take n text))))

-- what the files hold that the command names; the bytes of files that a host doesn't show are these
abbrev pub given : RunFiles → Outside → (Input → List ℕ) → Given
given files old unseen = record {
  schedule = file_bytes (old.file files.schedule) (unseen ScheduleInput);
  disk0 = disk_bytes files.disks.disk0 empty_disk0 old.file (unseen Disk0Input);
  disk1 = disk_bytes files.disks.disk1 empty_disk1 old.file (unseen Disk1Input);
  images = image_bytes 1 files.images old.file (λ i. unseen (ImageInput i));
}

-- The theorem. If `run` exits with status 0, it sent the text and the disks of a run of what it was given; else what it sent is the beginning of
-- such a text. `answers` of `xinu` and the law `the_whole` prove it; Theorem.antt says the same of each command, and what comes with it.
pub record Whole (exit : ℕ) (files : RunFiles) (old new : Outside) (left : Option Left) : Type 0 where
  pub unseen : Input → List ℕ
  pub done : exit ≡ 0 → SendsRun (given files old unseen) (wanted_of files) old new left
  pub broken_off : exit ≢ 0 → SendsBeginning (given files old unseen) (wanted_of files) old new
