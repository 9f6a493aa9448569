use Rattle.std.proofs.Common.{◌≡◌, ◌+◌, drop}
use Rattle.transcript_laws.specs.Choices.{nexts_told}
use Rattle.reference_check.proofs.choices.nexts_told.Given as goal

abbrev pub invariant-loop-call : goal.invariant-loop-call
invariant-loop-call l = (l.told + nexts_told (drop l.call-index l.calls) l.rest ≡ nexts_told l.calls l.text) × (l.told ≡ l.call-index)
