-- The events so far, and those that are left with the places that are ahead.
use Rattle.std.proofs.Common.{◌≡◌, ◌++◌, ◌≤◌, drop}
use Rattle.preemptions.specs.Passes.{AreAhead, preempted_after}
use Rattle.preemptions.specs.Preempted.{preempted_at}
use Rattle.preemptions.proofs.events.preempt.Given as goal

abbrev pub invariant-loop-event : goal.invariant-loop-event
invariant-loop-event l = record {
  made : l.events.items ++ preempted_after l.steps l.rest (drop l.event-index l.base) ≡ preempted_at l.fn.places l.base;
  ahead : AreAhead l.steps l.rest;
  few : l.steps ≤ l.event-index;
}
