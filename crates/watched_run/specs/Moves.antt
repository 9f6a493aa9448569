-- How a run that is watched moves: where it goes on, and how it stops.
use Rattle.std.specs.Prelude.{◌≡◌, ◌<◌, ◌&&◌, ℕ, not, true, if◌then◌else◌, List, length, Option, Some, None}
use Rattle.gdb_answers.specs.declared.stops.Stop.{Stop}
use Rattle.gdb_answers.specs.declared.stops.Stop.TheVariants.{Changed, Here, Trapped}
use Rattle.replayed_run.specs.Replayed.{Replayed}
use Rattle.watched_run.specs.Goals.{tells}
use Rattle.watched_run.specs.Moments.{Takes, was_told}
use Rattle.watched_run.specs.Stops.{IsStopped, Orders, Passes, PassesAll, changer, is_reached, stops_ahead}
use Rattle.watched_run.specs.Traps.{trap_in}
use Rattle.watched_run.specs.Watching.{areas_of, first_changed}
use Rattle.watched_run.specs.declared.goals.Goal.{Goal}
use Rattle.watched_run.specs.declared.stopped.Stopped.{Stopped}
use Rattle.watched_run.specs.declared.watched.WatchedRun.{WatchedRun}
use Rattle.xinu_base.specs.declared.lines.TranscriptLine.{TranscriptLine}
use Rattle.xinu_base.specs.declared.registers.Cause.{Cause}
use Rattle.xinu_model.specs.Machine.{Xinu}

-- what stops a run that is watched, if it is to go so far
abbrev pub orders_of : Goal → WatchedRun → Orders
orders_of goal run = record {
  goal = goal;
  addresses = run.points.addresses.items;
  areas = areas_of run.points.watches.items;
  told = run.told;
}

-- what stops a run after this stop ahead of the event after n others: a trap that is told there isn't told once more
abbrev pub told_by : Stop → ℕ → Orders → Orders
told_by (Trapped cause) n o = record o { told = Some n }
told_by _ n o = o

-- the same after a stop, if there is one
abbrev pub told_after : Option Stopped → ℕ → Orders → Orders
told_after None n o = o
told_after (Some stopped) n o = told_by stopped.stop n o

-- the process that a point stops ahead of its instruction, if one does
abbrev pub stopped_ahead : Orders → Xinu → Option ℕ → Option ℕ
stopped_ahead o s who = if stops_ahead o s who then who else None

-- the stop at a trap that an instruction after n others printed, if it is told
abbrev pub stop_at_trap : Orders → ℕ → Option Cause → Option ℕ → Option Stopped
stop_at_trap o n None who = None
stop_at_trap o n (Some cause) None = None
stop_at_trap o n (Some cause) (Some p) =
    if tells o.goal p && not (was_told o.told n) then Some (record { stop = Trapped cause; process = p }) else None

-- the stop after an instruction that reaches the goal, if it does
abbrev pub stop_at_goal : Orders → Xinu → Option ℕ → Option Stopped
stop_at_goal o s None = None
stop_at_goal o s (Some p) = if is_reached o s (Some p) then Some (record { stop = Here; process = p }) else None

-- the stop after an event in which the first bytes that are watched changed, if any did
abbrev pub stop_by : Orders → Xinu → Option ℕ → Option ℕ → Option Stopped
stop_by o s who None = stop_at_goal o s who
stop_by o s who (Some at) = Some (record { stop = Changed at; process = changer o.goal s who })

-- the stop after an event that led from a memory to a state, if there is one
abbrev pub stop_after : Orders → List ℕ → Xinu → Option ℕ → Option Stopped
stop_after o memory s who = stop_by o s who (first_changed memory s.memory o.areas)

-- The run took an event, and no trap in it is told.
pub record TakesUntold (o : Orders) (old new : Replayed) (who : Option ℕ) : Type 0 where
  pub lines : List TranscriptLine
  pub takes : Takes old new lines
  pub no_trap : stop_at_trap o old.taken (trap_in lines) who ≡ None

-- The run took an event in which a trap is told, and went back to stand ahead of it.
pub record StandsAhead (o : Orders) (old new : Replayed) (who : Option ℕ) (stopped : Stopped) : Type 0 where
  pub lines : List TranscriptLine
  pub after : Replayed
  pub takes : Takes old after lines
  pub trap : stop_at_trap o old.taken (trap_in lines) who ≡ Some stopped
  pub taken : new.taken ≡ old.taken
  pub state : old.known ≡ true → new.state ≡ old.state

-- The run took an event, unless a trap in it is told: then it stands ahead of it.
abbrev pub Steps : Orders → Replayed → Replayed → Option ℕ → Option Stopped → Type 0
Steps o old new who None = TakesUntold o old new who
Steps o old new who (Some stopped) = StandsAhead o old new who stopped

-- The run passes an event, or stops.
abbrev pub Moves : Orders → Replayed → Replayed → Option Stopped → Type 0
Moves o old new None = Passes o old new
Moves o old new (Some stopped) = IsStopped o old new stopped.process stopped.stop

-- The run passes some events, at least one.
pub record GoesOn (o : Orders) (old new : Replayed) : Type 0 where
  pub count : ℕ
  pub passes : PassesAll o count old new
  pub further : old.taken < new.taken
  pub within : old.taken < length old.events

-- The run passes some events, at least one, or stops.
abbrev pub Advances : Orders → Replayed → Replayed → Option Stopped → Type 0
Advances o old new None = GoesOn o old new
Advances o old new (Some stopped) = IsStopped o old new stopped.process stopped.stop

-- The run passes some events, and stops with the next one: at none of the moments before did anything stop it.
pub record Stops (o : Orders) (old new : Replayed) (stopped : Stopped) : Type 0 where
  pub count : ℕ
  pub mid : Replayed
  pub passes : PassesAll o count old mid
  pub why : IsStopped o mid new stopped.process stopped.stop
