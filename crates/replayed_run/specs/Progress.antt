-- What the next event of a run did, and what steps that print nothing did.
use Rattle.std.specs.Prelude.{◌≡◌, ◌≢◌, ◌+◌, ◌<◌, ℕ, true, false, List, length, Option, Some, is_some, slice_get}
use Rattle.replayed_run.specs.Lines.{IsPrinted}
use Rattle.replayed_run.specs.Replayed.{Replayed}
use Rattle.replayed_run.specs.Told.{text_at}
use Rattle.xinu_base.specs.declared.events.End.{End}
use Rattle.xinu_base.specs.declared.events.Event.{Event}
use Rattle.xinu_base.specs.declared.events.Event.TheVariants.{Step}
use Rattle.xinu_model.specs.Events.{panics_in}
use Rattle.xinu_model.specs.Runs.{end_with, is_over}
use Rattle.xinu_model.specs.Steps.{ArePlain, stepped_times}

-- The run took the event that came next, and it may have ended the run. These are the bytes of its lines, if they were kept.
pub record TakesEvent (old new : Replayed) (printed : Option (List ℕ)) : Type 0 where
  pub event : Event
  pub next : slice_get old.events old.taken ≡ Some event
  pub happens : IsPrinted old.state event new.state printed
  pub changes : new ≡ record old {
    taken = old.taken + 1;
    state = new.state;
    over = is_some (end_with (panics_in old.state event) (is_over new.state));
    told = new.told;
    known = new.known;
  }

-- The event that came next printed something else than when it was taken before.
pub record PrintsOther (old new : Replayed) : Type 0 where
  pub event : Event
  pub next : slice_get old.events old.taken ≡ Some event
  pub printed : List ℕ
  pub happens : IsPrinted old.state event new.state (Some printed)
  pub known : old.known ≡ true
  pub before : old.taken < length old.told
  pub other : text_at old.told old.taken ≢ printed

-- So the run ended with the event that came next, if it did.
pub record EndsWith (old new : Replayed) (end : Option End) : Type 0 where
  pub event : Event
  pub next : slice_get old.events old.taken ≡ Some event
  pub ends : end ≡ end_with (panics_in old.state event) (is_over new.state)

-- The run took so many steps that print nothing: they came next, and no event had ended it.
pub record TakesSteps (count : ℕ) (old new : Replayed) : Type 0 where
  pub goes_on : 0 < count → old.over ≡ false
  pub next : (n : ℕ) → n < count → slice_get old.events (old.taken + n) ≡ Some Step
  pub plain : ArePlain count old.state
  pub changes : new ≡ record old { taken = old.taken + count; state = stepped_times count old.state; told = new.told }
