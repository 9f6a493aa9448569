-- Each word takes at most three operands, so four tell.
use Rattle.std.proofs.Common.{map, ◌∙◌}
use Rattle.asm_syntax.specs.CodeMeanings.{seen_meaning}
use Rattle.asm_syntax.specs.CodeOperands.{seen_operand}
use Rattle.asm_syntax.specs.Meanings.{meaning_of}
use Rattle.asm_syntax.specs.Operands.{operands_of}
use Rattle.asm_syntax.specs.Tokens.{tokens_of, solid}
use Rattle.asm_syntax.proofs.FittingLemmas.{stated-four}
use Rattle.asm_syntax.proofs.lines.stated.Goals as goal

pub returns-in-Some-meaning_of-clause-statement : goal.returns-in-Some-meaning_of-clause-statement
returns-in-Some-meaning_of-clause-statement c =
    let made = rw c.as_slice.ensures.value at c.made.ensures.statement in
    made
    ∙ stated-four (meaning_of c.args.name.now) (seen_meaning c.in-Some-meaning_of.meaning) (operands_of (solid (tokens_of c.args.line.now)))
    (map seen_operand c.in-Some.operands.items) c.in-Some-meaning_of.ensures.meaning c.in-Some.ensures.operands
