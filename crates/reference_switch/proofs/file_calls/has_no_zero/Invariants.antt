-- None of the bytes that are left is zero if none of all is.
use Rattle.std.proofs.Common.{◌≡◌, ◌==◌, drop, not}
use Rattle.std.specs.List.{list_all}
use Rattle.reference_switch.proofs.file_calls.has_no_zero.Given as goal

abbrev pub invariant-loop-b : goal.invariant-loop-b
invariant-loop-b l = list_all (λ b. not (b == 0)) (drop l.b-index l.name) ≡ list_all (λ b. not (b == 0)) l.name
