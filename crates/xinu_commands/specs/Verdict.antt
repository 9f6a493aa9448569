-- What a command deserves by the bytes of its files. The inputs of a run and of a check are in InputVerdict.antt, what comes after them in
-- RunVerdict.antt and TraceVerdict.antt; `asm` is in AsmVerdict.antt, `soak` in SoakVerdict.antt, an action on a disk in DiskVerdict.antt, and what
-- work puts out in Work.antt.
use Rattle.std.specs.Prelude.{ℕ, List, Option, Some, None, is_some}
use Rattle.command_line.specs.Commands.{Command, Run, Asm, Soak, Check, Disk}
use Rattle.command_line.specs.DiskArgs.{DiskAction, Mkfs, Ls, Get, Put, Repair}
use Rattle.command_line.specs.DiskArgs as disk
use Rattle.command_line.specs.Reading.{Text}
use Rattle.command_line.specs.RunArgs.{RunFiles}
use Rattle.xinu_commands.specs.AsmVerdict.{asm_verdict}
use Rattle.xinu_commands.specs.DiskVerdict.{check_verdict, get_verdict, ls_verdict, mkfs_verdict, put_verdict, repair_verdict}
use Rattle.run_inputs.specs.InputFiles.{InputFiles, disk_bytes, file_bytes, image_bytes}
use Rattle.xinu_commands.specs.InputFiles.{run_inputs, check_inputs}
use Rattle.run_inputs.specs.InputDisks.{empty_disk0, empty_disk1}
use Rattle.xinu_commands.specs.InputVerdict.{Next, inputs_verdict}
use Rattle.xinu_commands.specs.RunVerdict.{run_verdict}
use Rattle.xinu_commands.specs.SoakVerdict.{soak_verdict}
use Rattle.xinu_commands.specs.TraceVerdict.{trace_verdict}
use Rattle.xinu_commands.specs.Work.{Verdict, Wanted, Refuses}
use Rattle.run_inputs.specs.declared.refusals.Refusal.TheVariants as refusal

-- A file that a command reads, by its place in the command: of a run the schedule, the disks and the images, which are counted from 1, and of a
-- check its trace too.
pub data Input : Type 0 where
  ScheduleInput : Input
  Disk0Input : Input
  Disk1Input : Input
  ImageInput : ℕ → Input
  TraceInput : Input
  DiskInput : Input
  SourceInput : Input

-- what inputs deserve if their files hold these bytes
abbrev pub held_verdict : Next → InputFiles → (Text → Option (List ℕ)) → (Input → List ℕ) → Verdict
held_verdict next f file unseen =
    inputs_verdict next (file_bytes (file f.schedule) (unseen ScheduleInput)) (disk_bytes f.disk0 empty_disk0 file (unseen Disk0Input))
    (disk_bytes f.disk1 empty_disk1 file (unseen Disk1Input)) (image_bytes 1 f.images file (λ i. unseen (ImageInput i)))

-- what is asked of a run: a disk is written if a file is named for it
abbrev pub wanted_of : RunFiles → Wanted
wanted_of r = record { plain = r.plain; out0 = is_some r.disks.out0; out1 = is_some r.disks.out1 }

-- what an action on a disk deserves if its files hold these bytes
abbrev pub action_verdict : DiskAction → (Input → Text → List ℕ) → Verdict
action_verdict (Mkfs blocks out) held = mkfs_verdict blocks
action_verdict (Ls image) held = ls_verdict (held DiskInput image)
action_verdict (Get image name out) held = get_verdict name (held DiskInput image)
action_verdict (Put image name source out) held = put_verdict name (held SourceInput source) (held DiskInput image)
action_verdict (disk.Check image) held = check_verdict (held DiskInput image)
action_verdict (Repair image out) held = repair_verdict (held DiskInput image)

-- What a command deserves if its files hold these bytes.
abbrev pub verdict : Option Command → (Text → Option (List ℕ)) → (Input → List ℕ) → Verdict
verdict None file unseen = Refuses refusal.Usage
verdict (Some (Run r)) file unseen = held_verdict (run_verdict (wanted_of r)) (run_inputs r) file unseen
verdict (Some (Check c)) file unseen = held_verdict (trace_verdict (file_bytes (file c.trace) (unseen TraceInput))) (check_inputs c) file unseen
verdict (Some (Asm a)) file unseen = asm_verdict a.elf (file_bytes (file a.source) (unseen SourceInput))
verdict (Some (Soak seed)) file unseen = soak_verdict seed
verdict (Some (Disk action)) file unseen = action_verdict action (λ input name. file_bytes (file name) (unseen input))
