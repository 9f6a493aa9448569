-- The statement of what the command does. Read `Answers`, at the end, first; what is asked is in Words.antt, what a search finds in Searching.antt,
-- and the table as it is printed in Printed.antt.
use Rattle.std.specs.Prelude.{◌≡◌, ◌≤◌, ◌<◌, ◌⊎◌, ℕ, List, length, map, codes, Option, Some, None, Result, Ok, Err, IfErr}
use Rattle.std.specs.List.{count_by}
use Rattle.command_line.specs.Reading.{Taken, Text}
use Rattle.command_words.specs.ToolNames.{cause_of}
use Rattle.command_words.specs.Words.{WordsFault}
use Rattle.command_words.specs.declared.words_fault.WordsFault.{WordsFault as WordsFaultValue}
use Rattle.given_disks.specs.Disks.{disks_of}
use Rattle.host_port.specs.Outside.{Outside}
use Rattle.preemptions.specs.Preempted.{is_step}
use Rattle.refusal_words.specs.Meanings.{cause_meaning}
use Rattle.refusal_words.specs.Tellings.{TellsInWords}
use Rattle.run_inputs.specs.Causes.{NamesLast, refusal_in, refused}
use Rattle.run_inputs.specs.InputFaults.{images_loaded}
use Rattle.run_inputs.specs.Reading.{ReadsInputs}
use Rattle.run_inputs.specs.declared.causes.Cause.{Cause}
use Rattle.run_inputs.specs.declared.inputs.Inputs.{Inputs}
use Rattle.run_inputs.specs.declared.refusals.Refusal.{Refusal}
use Rattle.run_inputs.specs.declared.causes.Cause.TheVariants as cause
use Rattle.run_inputs.specs.declared.refusals.Refusal.TheVariants as refusal
use Rattle.xinu_base.specs.declared.events.Event.{Event}
use Rattle.xinu_model.specs.Boot.{Loaded}
use Rattle.races_command.specs.Searching.{Searched, Searches}
use Rattle.races_command.specs.Words.{Asked, asked_in, read}
use Rattle.races_command.specs.declared.faults.Fault.{Fault}
use Rattle.races_command.specs.declared.faults.Fault.TheVariants as fault

-- The numbers fit the schedule: it has at most a million events, there are at most three quantum ends, and they are within its steps.
pub record Fits (a : Asked) (schedule : List Event) : Type 0 where
  pub few : length schedule ≤ 1000000
  pub most : a.most ≤ 3
  pub within : a.stretch.within ≤ count_by is_step schedule

-- The command went through the placements, or was refused since the numbers don't fit: the schedule is judged first, then the number of quantum ends,
-- and then the steps.
abbrev pub Goes : Asked → List Event → Searched → Option Fault → Outside → Outside → Type 0
Goes a schedule s (Some fault.TooLong) old new = (1000000 < length schedule) × (new ≡ old)
Goes a schedule s (Some fault.TooMany) old new = (length schedule ≤ 1000000) × (3 < a.most) × (new ≡ old)
Goes a schedule s (Some fault.TooFar) old new = (length schedule ≤ 1000000) × (a.most ≤ 3) × (count_by is_step schedule < a.stretch.within) × (new ≡ old)
Goes a schedule s (Some (fault.Refused (cause.Refused refusal.NoMemory))) old new = Searches s (Some (fault.Refused (cause.Refused refusal.NoMemory))) old new
Goes a schedule s ended old new = Fits a schedule × Searches s ended old new

-- what is searched, by what is asked and the inputs that were read
abbrev pub search_of : Asked → Inputs → List Loaded → Searched
search_of a x images = record {
  disks = disks_of x.disk0 x.disk1;
  images = images;
  base = x.schedule;
  most = a.most;
  stretch = a.stretch;
  found = a.found;
  outcome = a.outcome;
}

-- What became of the inputs: the refusal of them is that of the command, and with accepted ones the command went on.
abbrev pub Continues : Asked → Result Inputs Cause → Option Fault → Outside → Outside → Type 0
Continues a (Err c) ended old new = (ended ≡ Some (fault.Refused c)) × (new ≡ old)
Continues a (Ok x) ended old new =
    (images : List Loaded) → images_loaded (map (λ v. v.items) x.images.items) ≡ Some images → Goes a x.schedule (search_of a x images) ended old new

-- The inputs were fetched and judged as `run` does it, a file that can't be read is the last that was fetched, and the command went on with them.
pub record Obeys (a : Asked) (ended : Option Fault) (old new : Outside) : Type 0 where
  pub inputs : Result Inputs Cause
  pub read : Outside
  pub reads : ReadsInputs a.inputs (refused inputs) old read
  pub last : IfErr inputs (λ c. NamesLast c read)
  pub continues : Continues a inputs ended read new

-- Memory ran out before anything was done.
pub record HasNoMemory (ended : Option Fault) (old new : Outside) : Type 0 where
  pub fault : ended ≡ Some (fault.Refused (cause.Refused refusal.NoMemory))
  pub same : new ≡ old

-- The arguments are wrong, it is told in which way, and nothing was done.
pub record AsksNothing (wrong : WordsFault) (ended : Option Fault) (old new : Outside) : Type 0 where
  pub told : WordsFaultValue
  pub is : wrong ≡ cause_of told
  pub fault : ended ≡ Some (fault.Refused (cause.Words told))
  pub same : new ≡ old

-- The command was carried out as its words ask, if nothing is wrong with them.
abbrev pub Carries : Result Taken WordsFault → Option Fault → Outside → Outside → Type 0
Carries (Err wrong) ended old new = AsksNothing wrong ended old new ⊎ HasNoMemory ended old new
Carries (Ok t) ended old new = Obeys (asked_in t) ended old new ⊎ HasNoMemory ended old new

-- the refusal as which a fault is told, by its status and its text
abbrev pub refusal_of : Fault → Refusal
refusal_of (fault.Refused c) = refusal_in c
refusal_of fault.TooMany = refusal.Usage
refusal_of fault.TooLong = refusal.Usage
refusal_of fault.TooFar = refusal.Usage

-- the words of the command
abbrev pub usage : List ℕ
usage = codes "--preemptions P --within N [--from M] [--found FILE [--outcome K]] --schedule FILE [--disk0 FILE] [--disk1 FILE] IMAGE .."

-- the lines after that text: what the cause means, or which number doesn't fit
abbrev pub line_of : Fault → List ℕ
line_of (fault.Refused c) = cause_meaning usage c
line_of fault.TooMany = codes "there are at most 3 preemptions\n"
line_of fault.TooLong = codes "the schedule has over 1000000 events\n"
line_of fault.TooFar = codes "the schedule has fewer steps than that\n"

-- The status is 0 if the command was done, and else that of the fault, which is told by its text and lines after it.
abbrev pub Tells : Option Fault → ℕ → Outside → Outside → Type 0
Tells None exit mid new = (exit ≡ 0) × (new ≡ mid)
Tells (Some fault) exit mid new = TellsInWords (refusal_of fault) (line_of fault) exit mid new

-- The theorem. The command was carried out as its arguments ask (`carries`): the table that was sent is that of runs of all placements, over the
-- inputs that the files gave. Then, in the world that this left, its end was told by a status, and a fault by its text and lines after it.
pub record Answers (exit : ℕ) (args : List Text) (old new : Outside) : Type 0 where
  pub ended : Option Fault
  pub mid : Outside
  pub carries : Carries (read args) ended old mid
  pub tells : Tells ended exit mid new
