-- Where a run that is watched stops.
use Rattle.std.specs.Prelude.{◌≡◌, ◌&&◌, ◌||◌, ◌⊎◌, ℕ, zero, suc, Bool, not, true, false, if◌then◌else◌, List, Option, Some, None}
use Rattle.gdb_answers.specs.Threads.{shown_process}
use Rattle.gdb_answers.specs.declared.stops.Stop.{Stop}
use Rattle.gdb_answers.specs.declared.stops.Stop.TheVariants.{Beginning, Changed, End, Here, Trapped}
use Rattle.replayed_run.specs.Replayed.{Replayed, is_at_end}
use Rattle.watched_run.specs.Goals.{has_points, is_alone, is_met, teller, tells}
use Rattle.watched_run.specs.Moments.{Stands, Takes, actor, is_at_point, is_left, was_told}
use Rattle.watched_run.specs.Traps.{trap_in}
use Rattle.watched_run.specs.Watching.{Area, first_changed}
use Rattle.watched_run.specs.declared.goals.Goal.{Goal}
use Rattle.xinu_base.specs.declared.lines.TranscriptLine.{TranscriptLine}
use Rattle.xinu_base.specs.declared.registers.Cause.{Cause}
use Rattle.xinu_model.specs.Machine.{Xinu}

-- What stops a run: how far it is to go, the addresses of instructions ahead of which it stops, the bytes of RAM after a change of which it
-- stops, and how many events come before the one of which a trap was told.
pub record Orders : Type 0 where
  pub goal : Goal
  pub addresses : List ℕ
  pub areas : List Area
  pub told : Option ℕ

-- whether the run stops ahead of what process p does next: its instruction is at a point, and the goal lets the points of p stop the run
abbrev pub stops_ahead : Orders → Xinu → Option ℕ → Bool
stops_ahead o s None = false
stops_ahead o s (Some p) = has_points o.goal p && is_at_point o.addresses s p

-- the trap in the event after n others that is told: in an instruction of process p, if the goal lets a trap of p be told, and it wasn't
abbrev pub told_trap : Orders → ℕ → List TranscriptLine → Option ℕ → Option Cause
told_trap o n lines None = None
told_trap o n lines (Some p) = if tells o.goal p && not (was_told o.told n) then trap_in lines else None

-- whether an instruction of process p that led to a state reaches the goal: it was asked for; or p goes on alone, and came to a point, or is
-- gone
abbrev pub is_reached : Orders → Xinu → Option ℕ → Bool
is_reached o s None = false
is_reached o s (Some p) =
    if is_alone o.goal then tells o.goal p && (is_at_point o.addresses s p || not (is_left s p)) else is_met o.goal p

-- the process that a change is told of, if an event of process p made it, or of none, and this is the state that is shown
abbrev pub changer : Goal → Xinu → Option ℕ → ℕ
changer goal s None = teller goal (shown_process s.tables)
changer goal s (Some p) = teller goal p

-- The run passes an event: it doesn't stop ahead of it, no trap in it is told, no bytes that are watched change in it, and the goal isn't
-- reached.
pub record Passes (o : Orders) (old new : Replayed) : Type 0 where
  pub lines : List TranscriptLine
  pub takes : Takes old new lines
  pub no_point : stops_ahead o old.state (actor old) ≡ false
  pub no_trap : told_trap o old.taken lines (actor old) ≡ None
  pub no_change : first_changed old.state.memory new.state.memory o.areas ≡ None
  pub not_reached : is_reached o new.state (actor old) ≡ false

-- The run passed some events, and then one more.
pub record PassesMore (Before : Replayed → Type 0) (o : Orders) (new : Replayed) : Type 0 where
  pub mid : Replayed
  pub earlier : Before mid
  pub passes : Passes o mid new

-- The run passed so many events, one after another.
unfoldable pub PassesAll : Orders → ℕ → Replayed → Replayed → Type 0
PassesAll o zero old new = Stands old new
PassesAll o (suc n) old new = PassesMore (PassesAll o n old) o new

-- The run passed some events.
pub record HasPassed (o : Orders) (old new : Replayed) : Type 0 where
  pub count : ℕ
  pub passes : PassesAll o count old new

-- The run stands ahead of an instruction of process p at a point.
pub record IsAtPoint (o : Orders) (old new : Replayed) (p : ℕ) : Type 0 where
  pub stands : Stands old new
  pub acts : actor old ≡ Some p
  pub point : stops_ahead o old.state (Some p) ≡ true

-- The run took an instruction of process p, with which the goal is reached.
pub record HasReached (o : Orders) (old new : Replayed) (p : ℕ) : Type 0 where
  pub lines : List TranscriptLine
  pub takes : Takes old new lines
  pub acts : actor old ≡ Some p
  pub no_point : stops_ahead o old.state (Some p) ≡ false
  pub no_trap : told_trap o old.taken lines (Some p) ≡ None
  pub no_change : first_changed old.state.memory new.state.memory o.areas ≡ None
  pub reached : is_reached o new.state (Some p) ≡ true

-- The run took an event in which bytes changed that are watched, and these are the first of them.
pub record HasChanged (o : Orders) (old new : Replayed) (p at : ℕ) : Type 0 where
  pub lines : List TranscriptLine
  pub takes : Takes old new lines
  pub no_point : stops_ahead o old.state (actor old) ≡ false
  pub no_trap : told_trap o old.taken lines (actor old) ≡ None
  pub changed : first_changed old.state.memory new.state.memory o.areas ≡ Some at
  pub teller : p ≡ changer o.goal new.state (actor old)

-- The run stands ahead of an instruction of process p that prints a trap of this cause: it took it, and went back.
pub record IsAtTrap (o : Orders) (old new : Replayed) (p : ℕ) (cause : Cause) : Type 0 where
  pub lines : List TranscriptLine
  pub after : Replayed
  pub takes : Takes old after lines
  pub acts : actor old ≡ Some p
  pub no_point : stops_ahead o old.state (Some p) ≡ false
  pub trap : told_trap o old.taken lines (Some p) ≡ Some cause
  pub taken : new.taken ≡ old.taken
  pub state : old.known ≡ true → new.state ≡ old.state

-- The run stands at its end.
pub record IsAtEnd (old new : Replayed) (p : ℕ) : Type 0 where
  pub stands : Stands old new
  pub ends : is_at_end new ≡ true
  pub shows : p ≡ shown_process new.state.tables

-- why a run that goes on stops, and which process is told of: it stood first where it had passed all before, and stands then where it stops
abbrev pub IsStopped : Orders → Replayed → Replayed → ℕ → Stop → Type 0
IsStopped o old new p Here = IsAtPoint o old new p ⊎ HasReached o old new p
IsStopped o old new p (Trapped cause) = IsAtTrap o old new p cause
IsStopped o old new p (Changed at) = HasChanged o old new p at
IsStopped o old new p Beginning = ⊥
IsStopped o old new p End = IsAtEnd old new p
