-- The operands that are left have the same first name that isn't known.
use Rattle.std.proofs.Common.{◌≡◌, map, length}
use Rattle.asm_syntax.specs.CodeOperands.{seen_operand}
use Rattle.fault_words.specs.CodeCauses.{seen_slot}
use Rattle.fault_words.specs.Reasons.{first_unknown}
use Rattle.fault_words.proofs.answers.first_unknown.Given as goal

abbrev pub invariant-loop-places : goal.invariant-loop-places
invariant-loop-places l =
    first_unknown (map seen_slot l.slots) (map seen_operand l.operands)
    ≡ first_unknown (map seen_slot l.places) (map seen_operand l.rest)

abbrev pub decreases-loop-places : goal.decreases-loop-places
decreases-loop-places l = length l.places
