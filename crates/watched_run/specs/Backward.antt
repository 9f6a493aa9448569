-- Where a run that is watched stops on its way back.
use Rattle.std.specs.Prelude.{◌≡◌, ◌||◌, ℕ, zero, suc, Bool, true, false, List, Option, Some, None}
use Rattle.gdb_answers.specs.Threads.{shown_process}
use Rattle.gdb_answers.specs.declared.stops.Stop.{Stop}
use Rattle.gdb_answers.specs.declared.stops.Stop.TheVariants.{Beginning, Changed, End, Here, Trapped}
use Rattle.replayed_run.specs.Replayed.{Replayed}
use Rattle.watched_run.specs.Goals.{is_met}
use Rattle.watched_run.specs.Moments.{Stands, Takes, actor}
use Rattle.watched_run.specs.Stops.{Orders, changer, stops_ahead}
use Rattle.watched_run.specs.Watching.{first_changed}
use Rattle.watched_run.specs.declared.stopped.Stopped.{Stopped}
use Rattle.xinu_base.specs.declared.lines.TranscriptLine.{TranscriptLine}
use Rattle.xinu_model.specs.Machine.{Xinu}

-- what stops a run of which no trap was told
abbrev pub untold : Orders → Orders
untold o = record o { told = None }

-- whether a run stops on its way back ahead of what process p does next: its instruction reaches the goal; or it is at a point, and the goal lets
-- the points of p stop the run
abbrev pub stops_back : Orders → Xinu → Option ℕ → Bool
stops_back o s None = false
stops_back o s (Some p) = is_met o.goal p || stops_ahead o s (Some p)

-- An event led from one place to the next, and a run on its way back passes it: no bytes that are watched change in it, and it doesn't stop
-- ahead of it.
pub record IsPassedBack (o : Orders) (before after : Replayed) : Type 0 where
  pub lines : List TranscriptLine
  pub takes : Takes before after lines
  pub no_change : first_changed before.state.memory after.state.memory o.areas ≡ None
  pub no_stop : stops_back o before.state (actor before) ≡ false

-- Some events led so far, and then one more.
pub record IsPassedThen (Earlier : Replayed → Type 0) (o : Orders) (after : Replayed) : Type 0 where
  pub mid : Replayed
  pub earlier : Earlier mid
  pub passed : IsPassedBack o mid after

-- So many events led from one place to another, one after another, and a run on its way back passes them all.
unfoldable pub ArePassedBack : Orders → ℕ → Replayed → Replayed → Type 0
ArePassedBack o zero before after = Stands before after
ArePassedBack o (suc n) before after = IsPassedThen (ArePassedBack o n before) o after

-- The run stands ahead of an instruction of process p that stops it on its way back, and in which no bytes change that are watched.
pub record IsAhead (o : Orders) (new after : Replayed) (p : ℕ) : Type 0 where
  pub lines : List TranscriptLine
  pub takes : Takes new after lines
  pub acts : actor new ≡ Some p
  pub no_change : first_changed new.state.memory after.state.memory o.areas ≡ None
  pub stop : stops_back o new.state (Some p) ≡ true

-- The run stands ahead of an event in which bytes change that are watched, and these are the first of them.
pub record IsAheadOfChange (o : Orders) (new after : Replayed) (p at : ℕ) : Type 0 where
  pub lines : List TranscriptLine
  pub takes : Takes new after lines
  pub changed : first_changed new.state.memory after.state.memory o.areas ≡ Some at
  pub teller : p ≡ changer o.goal new.state (actor new)

-- The run stands at its beginning.
pub record IsAtBeginning (new after : Replayed) (p : ℕ) : Type 0 where
  pub stands : Stands new after
  pub begins : new.taken ≡ 0
  pub shows : p ≡ shown_process new.state.tables

-- why a run that goes back stops, and which process is told of: where it stands now, and where it was before it went back to there
abbrev pub IsStoppedBack : Orders → Replayed → Replayed → ℕ → Stop → Type 0
IsStoppedBack o new after p Here = IsAhead o new after p
IsStoppedBack o new after p (Changed at) = IsAheadOfChange o new after p at
IsStoppedBack o new after p Beginning = IsAtBeginning new after p
IsStoppedBack o new after p (Trapped cause) = ⊥
IsStoppedBack o new after p End = ⊥

-- The run went back over some events, and stops ahead of the one before them, or at its beginning. From where it stands one event leads to the
-- next, and at last to where it stood: so it stops at the last place at which anything stops it.
pub record StopsBack (o : Orders) (old new : Replayed) (stopped : Stopped) : Type 0 where
  pub after : Replayed
  pub why : IsStoppedBack o new after stopped.process stopped.stop
  pub count : ℕ
  pub passed : ArePassedBack o count after old
