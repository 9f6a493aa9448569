-- What is left of the text goes wrong where the whole does, the events so far and those that are left are at most 10^9, and the text has the lines
-- of a run of the events so far.
use Rattle.std.proofs.Common.{◌≡◌, ◌≤◌, ◌-◌, length}
use Rattle.reference_check.specs.Bounds.{IsWithin}
use Rattle.reference_state.specs.Answers.{IsStart}
use Rattle.trace_places.specs.Places.{mistake_from}
use Rattle.trace_places.proofs.Moments.{Came}
use Rattle.trace_places.proofs.walk.mistake_from.Given as goal

abbrev pub invariant-loop-event : goal.invariant-loop-event
invariant-loop-event l =
    (mistake_from l.fn.machine.state l.fn.schedule l.fn.text ≡ mistake_from l.machine.state l.schedule l.rest)
    × IsStart l.machine × (length l.schedule ≤ 1000000000)
    × IsWithin (1000000000 - length l.schedule) l.machine.state
    × Came l.fn.machine.state l.fn.schedule l.fn.text l.number l.machine.state l.schedule l.rest

abbrev pub decreases-loop-event : goal.decreases-loop-event
decreases-loop-event l = length l.schedule
