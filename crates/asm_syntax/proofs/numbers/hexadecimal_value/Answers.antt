-- Each digit is one more.
use Rattle.std.proofs.Common.{arith}
use Rattle.asm_syntax.proofs.NumberLemmas.{hexadecimal_more}
use Rattle.asm_syntax.proofs.numbers.hexadecimal_value.Goals as goal

pub loop-digit-preserved : goal.loop-digit-preserved
loop-digit-preserved c =
    hexadecimal_more c.args.digits.now c.loop-digit.digit-index c.loop-digit.number c.value_of.result c.min-number.result
    (omega (arith, c.loop-digit-test.true)) c.loop-digit.invariant c.value_of.ensures.value c.min-number.ensures
