-- The steps so far.
use Rattle.std.proofs.Common.{◌≡◌, ◌≤◌, take}
use Rattle.std.specs.List.{count_by}
use Rattle.preemptions.specs.Preempted.{is_step}
use Rattle.races_command.proofs.bases.steps_in.Given as goal

abbrev pub invariant-loop-event : goal.invariant-loop-event
invariant-loop-event l = record {
  counted : l.steps ≡ count_by is_step (take l.event-index l.base);
  within : l.steps ≤ l.event-index;
}
