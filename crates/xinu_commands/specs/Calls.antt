-- The calls of the host that are due: the files that a command fetches, and then those that it writes.
use Rattle.std.specs.Prelude.{List, [], ◌∷◌, ◌++◌, map, take, Option, Some, None}
use Rattle.command_line.specs.Commands.{Command, Run, Asm, Soak, Check, Disk}
use Rattle.command_line.specs.DiskArgs.{DiskAction, Mkfs, Ls, Get, Put, Repair}
use Rattle.command_line.specs.DiskArgs as disk
use Rattle.command_line.specs.Reading.{Text}
use Rattle.command_line.specs.RunArgs.{DiskFiles}
use Rattle.host_port.specs.Outside.{HostCall, fetching, naming}
use Rattle.host_port.specs.declared.host.Channel.{Channel}
use Rattle.host_port.specs.declared.host.Channel.TheVariants.{Disk0, Disk1, Image}
use Rattle.run_inputs.specs.Fetching.{disks_up_to}
use Rattle.run_inputs.specs.InputFiles.{InputFiles}
use Rattle.xinu_commands.specs.InputFiles.{run_inputs, check_inputs}
use Rattle.xinu_commands.specs.Work.{Verdict, Refuses, Does}
use Rattle.run_inputs.specs.declared.refusals.Refusal.TheVariants as refusal

-- files to be fetched, and then calls that name files for their channels, each in order
pub record Due : Type 0 where
  pub fetches : List Text
  pub outputs : List HostCall

-- all the calls in order
abbrev pub calls_in : Due → List HostCall
calls_in due = map fetching due.fetches ++ due.outputs

-- ---- the files that are fetched

-- The inputs are fetched in order, the schedule, then the disks, and then the images, which are counted from 1: up to the file that is refused, or
-- else all of them and the files after them.
abbrev pub input_fetches : InputFiles → List Text → Verdict → List Text
input_fetches f after (Refuses (refusal.Schedule l)) = f.schedule ∷ []
input_fetches f after (Refuses (refusal.Disk d b rule)) = f.schedule ∷ disks_up_to d f
input_fetches f after (Refuses (refusal.Image i fault)) = f.schedule ∷ disks_up_to 1 f ++ take i f.images
input_fetches f after _ = f.schedule ∷ disks_up_to 1 f ++ f.images ++ after

-- The source of a file that is set is fetched only if the disk is accepted.
abbrev pub source_fetches : Text → Verdict → List Text
source_fetches source (Refuses (refusal.Disk d b r)) = []
source_fetches source _ = source ∷ []

-- the files that an action on a disk fetches
abbrev pub action_fetches : DiskAction → Verdict → List Text
action_fetches (Mkfs blocks out) v = []
action_fetches (Ls image) v = image ∷ []
action_fetches (Get image name out) v = image ∷ []
action_fetches (Put image name source out) v = image ∷ source_fetches source v
action_fetches (disk.Check image) v = image ∷ []
action_fetches (Repair image out) v = image ∷ []

-- the files that a command with this verdict fetches
abbrev pub fetches_of : Option Command → Verdict → List Text
fetches_of None v = []
fetches_of (Some (Run r)) v = input_fetches (run_inputs r) [] v
fetches_of (Some (Check c)) v = input_fetches (check_inputs c) (c.trace ∷ []) v
fetches_of (Some (Asm a)) v = a.source ∷ []
fetches_of (Some (Soak seed)) v = []
fetches_of (Some (Disk action)) v = action_fetches action v

-- ---- the files that are written

-- the file that an action on a disk writes: a disk on Disk1, another file on Image
abbrev pub action_outputs : DiskAction → List HostCall
action_outputs (Mkfs blocks out) = naming Disk1 out ∷ []
action_outputs (Ls image) = []
action_outputs (Get image name out) = naming Image out ∷ []
action_outputs (Put image name source out) = naming Disk1 out ∷ []
action_outputs (disk.Check image) = []
action_outputs (Repair image out) = naming Disk1 out ∷ []

-- the file that a channel writes, if one is named
abbrev pub if_written : Channel → Option Text → List HostCall
if_written channel None = []
if_written channel (Some name) = naming channel name ∷ []

-- the files that a run writes: its raw disk, and then its disk with files
abbrev pub run_outputs : DiskFiles → List HostCall
run_outputs d = if_written Disk0 d.out0 ++ if_written Disk1 d.out1

-- the files that a command writes
abbrev pub outputs_of : Option Command → List HostCall
outputs_of None = []
outputs_of (Some (Run r)) = run_outputs r.disks
outputs_of (Some (Check c)) = []
outputs_of (Some (Asm a)) = naming Image a.out ∷ []
outputs_of (Some (Soak seed)) = []
outputs_of (Some (Disk action)) = action_outputs action

-- A file is written only if there is work to do.
abbrev pub unless_refused : Verdict → List HostCall → List HostCall
unless_refused (Refuses cause) outputs = []
unless_refused (Does work) outputs = outputs

-- ---- what is due

-- the calls that are due with a verdict, by the files that it lets be fetched and those that are written
abbrev pub due_by : (Verdict → List Text) → List HostCall → Verdict → Due
due_by fetches outputs v = record { fetches = fetches v; outputs = unless_refused v outputs }

-- the calls that a command with this verdict has to make
abbrev pub calls_due : Option Command → Verdict → Due
calls_due command v = due_by (fetches_of command) (outputs_of command) v
