-- Each byte so far passes.
use Rattle.std.proofs.Common.{◌≡◌, ◌==◌, not, drop}
use Rattle.std.specs.List.{list_all}
use Rattle.refusal_reasons.proofs.file_causes.has_no_zero.Given as goal

abbrev pub invariant-loop-b : goal.invariant-loop-b
invariant-loop-b l = list_all (λ b. not (b == 0)) l.name ≡ list_all (λ b. not (b == 0)) (drop l.b-index l.name)
