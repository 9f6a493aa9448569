-- Events with quantum ends put into them.
use Rattle.std.specs.Prelude.{ℕ, zero, suc, Bool, true, false, List, [], ◌∷◌}
use Rattle.xinu_base.specs.declared.events.Event.{Event}
use Rattle.xinu_base.specs.declared.events.Event.TheVariants.{Step, Tick}

-- whether an event is a step
abbrev pub is_step : Event → Bool
is_step Step = true
is_step event = false

-- the events with the end of a quantum, which is two ticks, put before the step that follows k steps
unfoldable pub preempted : ℕ → List Event → List Event
preempted k [] = []
preempted zero (Step ∷ events) = Tick ∷ Tick ∷ Step ∷ events
preempted (suc k) (Step ∷ events) = Step ∷ preempted k events
preempted k (event ∷ events) = event ∷ preempted k events

-- the events with the end of a quantum at each of these places; a place counts the steps of the events as they are given
abbrev pub preempted_at : List ℕ → List Event → List Event
preempted_at [] events = events
preempted_at (k ∷ places) events = preempted k (preempted_at places events)
