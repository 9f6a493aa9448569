-- The inputs are those at the start.
use Rattle.std.proofs.Common.{◌-◌, length}
use Rattle.replayed_run.specs.Replayed.{HasInputs}
use Rattle.judge_command.proofs.judging.take_events.Given as goal

abbrev pub invariant-loop-event : goal.invariant-loop-event
invariant-loop-event l = HasInputs l.initial.replay.disks l.initial.replay.files l.initial.replay.events l.replay

abbrev pub decreases-loop-event : goal.decreases-loop-event
decreases-loop-event l = length l.replay.events - l.replay.taken
