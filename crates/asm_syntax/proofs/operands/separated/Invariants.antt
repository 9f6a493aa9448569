-- The operands so far come before those that are left.
use Rattle.std.proofs.Common.{◌≡◌, length, map}
use Rattle.asm_syntax.specs.CodeOperands.{seen_operand, first_four}
use Rattle.asm_syntax.specs.Operands as spec
use Rattle.asm_syntax.specs.Tokens.{tokens_of, solid}
use Rattle.asm_syntax.proofs.OperandLemmas.{appended}
use Rattle.asm_syntax.proofs.operands.separated.Given as goal

abbrev pub invariant-loop-operand : goal.invariant-loop-operand
invariant-loop-operand l =
    first_four (spec.separated (solid (tokens_of l.line)))
    ≡ first_four (appended (map seen_operand l.operands.items) (spec.separated (solid (tokens_of l.rest))))

abbrev pub decreases-loop-operand : goal.decreases-loop-operand
decreases-loop-operand l = length l.rest
