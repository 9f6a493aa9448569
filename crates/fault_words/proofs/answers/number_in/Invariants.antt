-- The operands that are left have the same first number.
use Rattle.std.proofs.Common.{◌≡◌, map, length}
use Rattle.asm_syntax.specs.CodeOperands.{seen_operand}
use Rattle.fault_words.specs.Reasons.{number_in}
use Rattle.fault_words.proofs.answers.number_in.Given as goal

abbrev pub invariant-loop-rest : goal.invariant-loop-rest
invariant-loop-rest l =
    number_in (map seen_operand l.operands) ≡ number_in (map seen_operand l.rest)

abbrev pub decreases-loop-rest : goal.decreases-loop-rest
decreases-loop-rest l = length l.rest
