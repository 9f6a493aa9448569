-- What is left of the text is to be accepted of what is left of the schedule, and the events so far and these are at most 10^9.
use Rattle.std.proofs.Common.{◌≡◌, ◌≤◌, ◌-◌, length}
use Rattle.transcript_laws.specs.Choices.{told}
use Rattle.transcript_laws.specs.Reading.{accepts}
use Rattle.reference_check.specs.Bounds.{IsWithin}
use Rattle.reference_state.specs.Answers.{IsStart}
use Rattle.reference_check.proofs.driver.check_events.Given as goal

abbrev pub invariant-loop-e : goal.invariant-loop-e
invariant-loop-e l =
    (accepts told l.machine.state l.schedule l.rest ≡ accepts told l.fn.machine.state l.fn.schedule l.fn.text)
    × IsStart l.machine × (length l.schedule ≤ 1000000000)
    × IsWithin (1000000000 - length l.schedule) l.machine.state

abbrev pub decreases-loop-e : goal.decreases-loop-e
decreases-loop-e l = length l.schedule
