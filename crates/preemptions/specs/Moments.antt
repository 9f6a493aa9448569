-- When the preemptions of a placement come, counted in events.
use Rattle.std.specs.Prelude.{◌≡◌, ℕ, zero, suc, ◌+◌, ◌*◌, List, [], ◌∷◌, drop}
use Rattle.xinu_base.specs.declared.events.Event.{Event}
use Rattle.xinu_base.specs.declared.events.Event.TheVariants.{Step, Tick}

-- how many events come before the step that follows k steps: all, if none does
unfoldable pub events_before : ℕ → List Event → ℕ
events_before k [] = 0
events_before zero (Step ∷ events) = 0
events_before (suc k) (Step ∷ events) = 1 + events_before k events
events_before k (event ∷ events) = 1 + events_before k events

-- How many events come before each of these preemptions in the schedule with them, if so many preemptions come before the first: those of the base,
-- and two ticks for each preemption that came before.
unfoldable pub moments_from : ℕ → List ℕ → List Event → List ℕ
moments_from earlier [] base = []
moments_from earlier (k ∷ places) base = (events_before k base + 2 * earlier) ∷ moments_from (earlier + 1) places base

-- how many events come before each preemption of a placement
abbrev pub moments : List ℕ → List Event → List ℕ
moments places base = moments_from 0 places base

-- After so many of these events the end of a quantum comes, and the step before which it was put.
pub record Preempts (n : ℕ) (events : List Event) : Type 0 where
  pub later : List Event
  pub is : drop n events ≡ Tick ∷ Tick ∷ Step ∷ later
