use Rattle.std.proofs.Common.{◌≡◌, length}
use Rattle.transcript_laws.specs.Choices.{after_line}
use Rattle.reference_check.proofs.choices.without_line.Given as goal

abbrev pub invariant-loop-b : goal.invariant-loop-b
invariant-loop-b l = after_line l.rest ≡ after_line l.text

abbrev pub decreases-loop-b : goal.decreases-loop-b
decreases-loop-b l = length l.rest
