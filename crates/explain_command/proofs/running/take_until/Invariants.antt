-- The inputs are those at the start, and no more events were taken than are asked for.
use Rattle.std.proofs.Common.{◌-◌, ◌≤◌, length}
use Rattle.replayed_run.specs.Replayed.{HasInputs}
use Rattle.explain_command.proofs.running.take_until.Given as goal

abbrev pub invariant-loop-event : goal.invariant-loop-event
invariant-loop-event l = HasInputs l.initial.replay.disks l.initial.replay.files l.initial.replay.events l.replay × (l.replay.taken ≤ l.events)

abbrev pub decreases-loop-event : goal.decreases-loop-event
decreases-loop-event l = length l.replay.events - l.replay.taken
