-- What is told of a run. Read `TellsRun`, at the end, first.
use Rattle.std.specs.Prelude.{◌≡◌, ◌⊎◌, ◌==◌, ◌||◌, ℕ, Bool, true, false, List, [], ◌++◌, map, Option, Some, None, Result, Ok, Err}
use Rattle.explain_command.specs.Ends.{HasEnded, call_text}
use Rattle.explain_command.specs.Passing.{HasLived, HasRefused}
use Rattle.explain_command.specs.Refusals.{AreRefusals, kinds_told}
use Rattle.explain_command.specs.Traces.{IsUnstarted, SendsPart}
use Rattle.explain_command.specs.Words.{Asked}
use Rattle.explain_command.specs.declared.sights.Sight.{Sight}
use Rattle.given_disks.specs.Disks.{disks_of}
use Rattle.host_port.specs.HostCalls.{Rose}
use Rattle.host_port.specs.Outside.{Outside, appended, counted}
use Rattle.host_port.specs.declared.host.Channel.TheVariants.{Out}
use Rattle.process_lives.specs.declared.lives.Life.{Life}
use Rattle.refused_calls.specs.declared.kinds.Kind.{Kind}
use Rattle.refused_calls.specs.declared.refused.Refused.{Refused}
use Rattle.replayed_run.specs.Replayed.{HasInputs, IsReplayed, Replayed, is_at_end}
use Rattle.run_inputs.specs.declared.causes.Cause.{Cause}
use Rattle.run_inputs.specs.declared.causes.Cause.TheVariants as cause
use Rattle.run_inputs.specs.declared.inputs.Inputs.{Inputs}
use Rattle.run_inputs.specs.declared.refusals.Refusal.{Refusal}
use Rattle.run_inputs.specs.declared.refusals.Refusal.TheVariants as refusal
use Rattle.run_story.specs.Endings.{after_line, ending_line}
use Rattle.told_left.specs.Left.{AreTold, left_head}
use Rattle.xinu_base.specs.declared.events.End.{End}

-- ---- the text

-- A text tells how a run ended, in a line: after the list of events, which is empty unless one is asked for, and ahead of all else. The line has
-- the end, the number of events that were taken and the tick of the state. After traps and strays it tells of these kinds of refused calls, and then
-- of the processes that are left, with these lives.
pub record HasParts (steps : Option (ℕ × ℕ)) (kinds : List Kind) (lives : List Life) (r : Replayed) (end : End) (text : List ℕ) : Type 0 where
  pub listing : List ℕ
  pub unlisted : steps ≡ None → listing ≡ []
  pub panicked : Option Sight
  pub traps : List ℕ
  pub refused : List ℕ
  pub refusals : AreRefusals kinds refused
  pub left : List ℕ
  pub told : AreTold r.files r.state lives 63 left
  pub rest : List ℕ
  pub is : text ≡ listing ++ ending_line end r.taken r.state.tables.ticks (call_text panicked) ++ traps ++ refused ++ left_head r.state.tables ++ left ++ rest

-- It is the story of a run: the run went on to its end, and that is told, with the calls that were refused in its events, each, or each kind once, and
-- with what each process does that is left, and since when.
pub record IsStory (steps : Option (ℕ × ℕ)) (each : Bool) (r : Replayed) (text : List ℕ) : Type 0 where
  pub last : Replayed
  pub inputs : HasInputs r.disks r.files r.events last
  pub end : End
  pub ended : HasEnded last end
  pub calls : List Refused
  pub refuses : HasRefused r last calls
  pub lives : List Life
  pub lived : HasLived r last lives
  pub parts : HasParts steps (kinds_told each calls) lives last end text

-- It tells the state of a run after so many events, or after all if it has fewer. The first line has the number of events that were taken and the
-- tick of the state.
pub record IsStateText (n : ℕ) (r : Replayed) (text : List ℕ) : Type 0 where
  pub last : Replayed
  pub inputs : HasInputs r.disks r.files r.events last
  pub runs : IsReplayed last
  pub reached : (last.taken == n || is_at_end last) ≡ true
  pub rest : List ℕ
  pub is : text ≡ after_line last.taken last.state.tables.ticks ++ rest

-- The story, or if it is asked for the state after so many events.
abbrev pub TellsOf : Option ℕ → Option (ℕ × ℕ) → Bool → Replayed → List ℕ → Type 0
TellsOf None steps each r text = IsStory steps each r text
TellsOf (Some n) steps each r text = IsStateText n r text

-- It is the run of these inputs, before its first event.
pub record BeginsRun (x : Inputs) (r : Replayed) : Type 0 where
  pub inputs : HasInputs (disks_of x.disk0 x.disk1) (map (λ v. v.items) x.images.items) x.schedule r
  pub none : r.taken ≡ 0
  pub goes_on : r.over ≡ false

-- The text tells what is asked of the run of these inputs.
pub record IsTold (a : Asked) (x : Inputs) (text : List ℕ) : Type 0 where
  pub run : Replayed
  pub begins : BeginsRun x run
  pub tells : TellsOf a.at a.steps a.each run text

-- ---- what is sent

-- A text wasn't told for this cause: the images don't boot, the run printed something else than it did before, or memory ran out.
abbrev pub IsUntold : Inputs → Refusal → Type 0
IsUntold x refusal.HostFault = Unit {0}
IsUntold x r = IsUnstarted (disks_of x.disk0 x.disk1) (map (λ v. v.items) x.images.items) r

-- Sending a text was broken off: the host failed, or memory ran out.
abbrev pub IsCutOff : List ℕ → Refusal → Outside → Outside → Type 0
IsCutOff text refusal.HostFault old new = SendsPart text old new × Rose old.faults new.faults
IsCutOff text refusal.NoMemory old new = SendsPart text old new
IsCutOff text _ old new = ⊥

-- A text was sent, with status 0, or that was broken off.
abbrev pub Sends : List ℕ → Result ℕ Cause → Outside → Outside → Type 0
Sends text (Ok status) old new = (status ≡ 0) × (new ≡ counted (appended old Out text) new.faults)
Sends text (Err (cause.Refused r)) old new = IsCutOff text r old new
Sends text (Err _) old new = ⊥

-- What is asked was told of the run of these inputs, and sent.
pub record SendsTold (a : Asked) (x : Inputs) (ended : Result ℕ Cause) (old new : Outside) : Type 0 where
  pub text : List ℕ
  pub told : IsTold a x text
  pub sends : Sends text ended old new

-- It wasn't told, and nothing was sent.
abbrev pub SendsNothing : Inputs → Result ℕ Cause → Outside → Outside → Type 0
SendsNothing x (Err (cause.Refused r)) old new = IsUntold x r × (new ≡ old)
SendsNothing x ended old new = ⊥

-- What became of accepted inputs.
abbrev pub TellsRun : Asked → Inputs → Result ℕ Cause → Outside → Outside → Type 0
TellsRun a x ended old new = SendsTold a x ended old new ⊎ SendsNothing x ended old new
