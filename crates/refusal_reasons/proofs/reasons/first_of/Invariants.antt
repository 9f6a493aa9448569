-- No cause so far holds.
use Rattle.std.proofs.Common.{◌≡◌, drop}
use Rattle.refusal_reasons.specs.Causes.{first_reason}
use Rattle.refusal_reasons.proofs.reasons.first_of.Given as goal

abbrev pub invariant-loop-cause : goal.invariant-loop-cause
invariant-loop-cause l = first_reason l.causes ≡ first_reason (drop l.cause-index l.causes)
