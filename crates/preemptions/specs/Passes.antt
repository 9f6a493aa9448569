-- Events gone through once, with the places that are still ahead.
use Rattle.std.specs.Prelude.{◌≡◌, ℕ, ◌+◌, ◌-◌, ◌≤◌, List, ◌∷◌, ◌++◌, map}
use Rattle.std.specs.List.{All}
use Rattle.xinu_base.specs.declared.events.Event.{Event}
use Rattle.xinu_base.specs.declared.events.Event.TheVariants.{Step}
use Rattle.preemptions.specs.Placements.{IsAscending}
use Rattle.preemptions.specs.Preempted.{preempted_at}

-- the events that come after so many steps, with the places counted from the start
abbrev pub preempted_after : ℕ → List ℕ → List Event → List Event
preempted_after steps places events = preempted_at (map (λ k. k - steps) places) events

-- the places ascend from this number of steps on
pub record AreAhead (steps : ℕ) (places : List ℕ) : Type 0 where
  pub ascending : IsAscending places
  pub ahead : All (λ k. steps ≤ k) places

-- what is appended, and the places that are ahead then
pub record Steps (steps : ℕ) (places left : List ℕ) (before after : List Event) : Type 0 where
  pub appended : (events : List Event) → after ++ preempted_after (steps + 1) left events ≡ before ++ preempted_after steps places (Step ∷ events)
  pub ahead : AreAhead (steps + 1) left
