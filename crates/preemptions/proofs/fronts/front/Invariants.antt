-- The steps so far.
use Rattle.std.proofs.Common.{◌≡◌, ◌≤◌, ℕ, List, take}
use Rattle.std.specs.List.{count_by}
use Rattle.xinu_base.specs.declared.events.Event.{Event}
use Rattle.preemptions.specs.Preempted.{is_step}
use Rattle.preemptions.proofs.fronts.front.Given as goal

-- so many of the first events are steps, and no more than may be passed
pub record Passed (base : List Event) (i steps within : ℕ) : Type 0 where
  pub counted : count_by is_step (take i base) ≡ steps
  pub few : steps ≤ within

abbrev pub invariant-loop-i : goal.invariant-loop-i
invariant-loop-i l = Passed l.base l.i l.steps l.fn.stretch.within
