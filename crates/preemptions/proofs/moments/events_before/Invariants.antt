-- The events so far, and those before the step that is sought.
use Rattle.std.proofs.Common.{◌≡◌, ◌+◌, ◌-◌, ◌≤◌, ℕ, List, drop}
use Rattle.xinu_base.specs.declared.events.Event.{Event}
use Rattle.preemptions.specs.Moments.{events_before}
use Rattle.preemptions.proofs.moments.events_before.Given as goal

-- so many steps were passed, and no more than come before it
pub record Passed (base : List Event) (i passed steps : ℕ) : Type 0 where
  pub before : events_before steps base ≡ i + events_before (steps - passed) (drop i base)
  pub few : passed ≤ steps

abbrev pub invariant-loop-i : goal.invariant-loop-i
invariant-loop-i l = Passed l.base l.i l.passed l.fn.steps
