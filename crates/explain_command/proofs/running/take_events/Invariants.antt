-- What was noted is what there is in the events so far, and so are the refused calls and the lives; none of these events ended the run.
use Rattle.std.proofs.Common.{◌≡◌, ◌-◌, false, length}
use Rattle.explain_command.specs.Passing.{HasLived, HasNoted, HasRefused}
use Rattle.replayed_run.specs.Replayed.{HasInputs}
use Rattle.explain_command.proofs.running.take_events.Given as goal

abbrev pub invariant-loop-event : goal.invariant-loop-event
invariant-loop-event l =
    HasNoted l.initial.replay l.replay l.strays
    × HasRefused l.initial.replay l.replay l.refused
    × HasLived l.initial.replay l.replay l.lives
    × HasInputs l.initial.replay.disks l.initial.replay.files l.initial.replay.events l.replay
    × (l.replay.over ≡ false)

abbrev pub decreases-loop-event : goal.decreases-loop-event
decreases-loop-event l = length l.replay.events - l.replay.taken
