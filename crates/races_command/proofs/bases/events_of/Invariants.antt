-- The events so far, and those that are left.
use Rattle.std.proofs.Common.{◌≡◌, ◌≤◌, ◌++◌, length}
use Rattle.races_command.proofs.bases.events_of.Given as goal

abbrev pub invariant-loop-event : goal.invariant-loop-event
invariant-loop-event l = record {
  all : l.events.items ++ l.schedule ≡ l.fn.schedule;
  few : length l.events.items ≤ 1000000;
}

abbrev pub decreases-loop-event : goal.decreases-loop-event
decreases-loop-event l = length l.schedule
