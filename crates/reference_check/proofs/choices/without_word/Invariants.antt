use Rattle.std.proofs.Common.{◌≡◌, length}
use Rattle.transcript_laws.specs.Choices.{after_blank}
use Rattle.reference_check.proofs.choices.without_word.Given as goal

abbrev pub invariant-loop-b : goal.invariant-loop-b
invariant-loop-b l = after_blank l.rest ≡ after_blank l.text

abbrev pub decreases-loop-b : goal.decreases-loop-b
decreases-loop-b l = length l.rest
