-- Each operand is kept.
use Rattle.std.proofs.Common.{◌≡◌, ◌∙◌, List, Option, Some, map, ap}
use Rattle.asm_syntax.specs.Operands.{Operand, before, separated}
use Rattle.asm_syntax.specs.Tokens.{tokens_of, solid}
use Rattle.asm_syntax.specs.CodeOperands.{seen_operand, first_four}
use Rattle.asm_syntax.proofs.OperandLemmas.{appended, first_four-more}
use Rattle.asm_syntax.proofs.operands.separated.Goals as goal

pub loop-operand-preserved : goal.loop-operand-preserved
loop-operand-preserved c =
    let next : separated (solid (tokens_of c.loop-operand.rest.now))
    ≡ before (Some (seen_operand c.in-Some.operand)) (separated (solid (tokens_of c.in-Some-after.next.now))) =
    rw c.in-Some-after.is at c.in-Some.ensures.operands in
    c.loop-operand.invariant
    ∙ ap (λ (o : Option (List Operand)). first_four (appended (map seen_operand c.loop-operand.operands.items) o)) next
    ∙ first_four-more (map seen_operand c.loop-operand.operands.items) (map seen_operand c.keep.new.operands.items)
    (seen_operand c.in-Some.operand) (separated (solid (tokens_of c.in-Some-after.next.now))) c.keep.ensures.kept
