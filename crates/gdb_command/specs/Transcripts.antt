-- The lines of one event more.
use Rattle.std.specs.Prelude.{◌≡◌, ℕ, List, ◌++◌, Some}
use Rattle.replayed_run.specs.Progress.{TakesEvent}
use Rattle.replayed_run.specs.Replayed.{Replayed}

-- The next event happened, and its lines come after those of the events before it.
pub record TakesOne (old new : Replayed) (before after : List ℕ) : Type 0 where
  pub printed : List ℕ
  pub takes : TakesEvent old new (Some printed)
  pub appends : after ≡ before ++ printed
