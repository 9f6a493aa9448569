-- The states through which a run comes as it is told, and what is noted of strays, of refused calls and of what each process does in them.
use Rattle.std.specs.Prelude.{◌≡◌, ◌⊎◌, ◌<◌, ℕ, List, [], ◌∷◌, length, Option}
use Rattle.memory_strays.specs.Strays.{Noted, noted}
use Rattle.process_lives.specs.Lives.{life_in, life_of}
use Rattle.process_lives.specs.declared.lives.Life.{Life}
use Rattle.refused_calls.specs.Refusals.{refusals_of}
use Rattle.refused_calls.specs.declared.refused.Refused.{Refused}
use Rattle.replayed_run.specs.Progress.{TakesEvent, TakesSteps}
use Rattle.replayed_run.specs.Replayed.{Replayed}
use Rattle.xinu_model.specs.Machine.{Xinu}

-- The event that came next was taken, or a step that prints nothing.
abbrev pub TakesNext : Replayed → Replayed → Type 0
TakesNext old new = ((printed : Option (List ℕ)) × TakesEvent old new printed) ⊎ TakesSteps 1 old new

-- One event more was taken, in this state.
pub record PassesOne (Before : Replayed → Type 0) (s : Xinu) (new : Replayed) : Type 0 where
  pub mid : Replayed
  pub before : Before mid
  pub state : s ≡ mid.state
  pub takes : TakesNext mid new

-- Events were taken one after another: these are the states ahead of them, the latest one first.
unfoldable pub Passes : Replayed → List Xinu → Replayed → Type 0
Passes old [] new = new ≡ old
Passes old (s ∷ earlier) new = PassesOne (Passes old earlier) s new

-- What was noted is what there is in the events that were taken since the beginning of the run.
pub record HasNoted (old new : Replayed) (x : Noted) : Type 0 where
  pub states : List Xinu
  pub passes : Passes old states new
  pub many : length states ≡ new.taken
  pub notes : x ≡ noted new.files new.events states

-- The refused calls are those of the events that were taken since the beginning of the run.
pub record HasRefused (old new : Replayed) (calls : List Refused) : Type 0 where
  pub states : List Xinu
  pub passes : Passes old states new
  pub many : length states ≡ new.taken
  pub are : calls ≡ refusals_of new.events states

-- The lives of the processes are those in this state, by the states ahead of the events that were taken since the beginning of the run.
pub record HasLived (old new : Replayed) (lives : List Life) : Type 0 where
  pub states : List Xinu
  pub passes : Passes old states new
  pub many : length states ≡ new.taken
  pub are : (p : ℕ) → p < 64 → life_in lives p ≡ life_of p states new.state
