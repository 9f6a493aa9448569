-- What is told of the data races of a run. Read `JudgesRun`, at the end, first.
use Rattle.std.specs.Prelude.{◌≡◌, ◌⊎◌, ◌==◌, ℕ, true, false, if◌then◌else◌, List, [], ◌++◌, take, map, Result, Ok, Err, codes}
use Rattle.std.specs.Fmt.{decimal}
use Rattle.given_disks.specs.Disks.{disks_of}
use Rattle.host_port.specs.HostCalls.{Rose}
use Rattle.host_port.specs.Outside.{Outside, appended, counted}
use Rattle.host_port.specs.declared.host.Channel.TheVariants.{Out}
use Rattle.replayed_run.specs.Replayed.{HasInputs, IsReplayed, Replayed, is_at_end}
use Rattle.run_inputs.specs.Starts.{HasNoRoomIn, OverlapsIn}
use Rattle.run_inputs.specs.declared.causes.Cause.{Cause}
use Rattle.run_inputs.specs.declared.causes.Cause.TheVariants as cause
use Rattle.run_inputs.specs.declared.inputs.Inputs.{Inputs}
use Rattle.run_inputs.specs.declared.refusals.Refusal.{Refusal}
use Rattle.run_inputs.specs.declared.refusals.Refusal.TheVariants as refusal
use Rattle.xinu_model.specs.Boot.{Disks}

-- ---- the text

-- how many data races there are
unfoldable pub count_words : ℕ → List ℕ
count_words races = if races == 0 then codes "No data race" else if races == 1 then codes "1 data race" else decimal races ++ codes " data races"

-- the last line: how many data races there are in so many events
unfoldable pub last_line : ℕ → ℕ → List ℕ
last_line races events = count_words races ++ codes " in " ++ decimal events ++ (if events == 1 then codes " event.\n" else codes " events.\n")

-- A text ends with that line, and has nothing before it if there is no data race.
pub record EndsInLine (races events : ℕ) (text : List ℕ) : Type 0 where
  pub reports : List ℕ
  pub none : races ≡ 0 → reports ≡ []
  pub is : text ≡ reports ++ last_line races events

-- It tells of a run: that went on to its end, and the last line has the number of its events.
pub record IsJudgement (r : Replayed) (races : ℕ) (text : List ℕ) : Type 0 where
  pub last : Replayed
  pub inputs : HasInputs r.disks r.files r.events last
  pub runs : IsReplayed last
  pub ended : is_at_end last ≡ true
  pub line : EndsInLine races last.taken text

-- It is the run of these inputs, before its first event.
pub record BeginsRun (x : Inputs) (r : Replayed) : Type 0 where
  pub inputs : HasInputs (disks_of x.disk0 x.disk1) (map (λ v. v.items) x.images.items) x.schedule r
  pub none : r.taken ≡ 0
  pub goes_on : r.over ≡ false

-- The text tells so many data races of the run of these inputs.
pub record IsTold (x : Inputs) (races : ℕ) (text : List ℕ) : Type 0 where
  pub run : Replayed
  pub begins : BeginsRun x run
  pub tells : IsJudgement run races text

-- ---- what is sent

-- The images in these files don't boot on these disks, for this cause; or memory ran out.
abbrev pub IsUnstarted : Disks → List (List ℕ) → Refusal → Type 0
IsUnstarted disks files (refusal.Overlap image) = OverlapsIn disks files image
IsUnstarted disks files (refusal.NoRoom image) = HasNoRoomIn disks files image
IsUnstarted disks files refusal.NoMemory = Unit {0}
IsUnstarted disks files _ = ⊥

-- A text wasn't told for this cause: the images don't boot, the run printed something else than it did before, or memory ran out.
abbrev pub IsUntold : Inputs → Refusal → Type 0
IsUntold x refusal.HostFault = Unit {0}
IsUntold x r = IsUnstarted (disks_of x.disk0 x.disk1) (map (λ v. v.items) x.images.items) r

-- A prefix of a text was sent, and but for the count of faults nothing else changed.
pub record SendsPart (text : List ℕ) (old new : Outside) : Type 0 where
  pub many : ℕ
  pub part : new ≡ counted (appended old Out (take many text)) new.faults

-- Sending a text was broken off: the host failed, or memory ran out.
abbrev pub IsCutOff : List ℕ → Refusal → Outside → Outside → Type 0
IsCutOff text refusal.HostFault old new = SendsPart text old new × Rose old.faults new.faults
IsCutOff text refusal.NoMemory old new = SendsPart text old new
IsCutOff text _ old new = ⊥

-- the status by the number of data races: 0 if there is none, else 15
abbrev pub status_of : ℕ → ℕ
status_of races = if races == 0 then 0 else 15

-- A text that tells so many data races was sent, with their status, or that was broken off.
abbrev pub Sends : ℕ → List ℕ → Result ℕ Cause → Outside → Outside → Type 0
Sends races text (Ok status) old new = (status ≡ status_of races) × (new ≡ counted (appended old Out text) new.faults)
Sends races text (Err (cause.Refused r)) old new = IsCutOff text r old new
Sends races text (Err _) old new = ⊥

-- The data races of the run of these inputs were told, and sent.
pub record SendsTold (x : Inputs) (ended : Result ℕ Cause) (old new : Outside) : Type 0 where
  pub races : ℕ
  pub text : List ℕ
  pub told : IsTold x races text
  pub sends : Sends races text ended old new

-- They weren't told, and nothing was sent.
abbrev pub SendsNothing : Inputs → Result ℕ Cause → Outside → Outside → Type 0
SendsNothing x (Err (cause.Refused r)) old new = IsUntold x r × (new ≡ old)
SendsNothing x ended old new = ⊥

-- What became of accepted inputs.
abbrev pub JudgesRun : Inputs → Result ℕ Cause → Outside → Outside → Type 0
JudgesRun x ended old new = SendsTold x ended old new ⊎ SendsNothing x ended old new
