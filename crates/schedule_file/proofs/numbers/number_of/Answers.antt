-- One more digit.
use Rattle.std.proofs.Common.{arith}
use Rattle.schedule_file.proofs.DigitLemmas.{digits_value-next, digits_value-fits}
use Rattle.schedule_file.proofs.numbers.number_of.Goals as goal

pub overflow_mul-number : goal.overflow_mul-number
overflow_mul-number c =
    omega (
      arith,
      digits_value-fits c.args.digits.now c.loop-digit.digit-index c.loop-digit.number c.requires.digits c.requires.few
          c.loop-digit-test.true c.loop-digit.invariant,
    )

pub overflow_add-number : goal.overflow_add-number
overflow_add-number c =
    omega (
      arith,
      digits_value-fits c.args.digits.now c.loop-digit.digit-index c.loop-digit.number c.requires.digits c.requires.few
          c.loop-digit-test.true c.loop-digit.invariant,
    )

pub loop-digit-preserved : goal.loop-digit-preserved
loop-digit-preserved c =
    digits_value-next c.args.digits.now c.loop-digit.digit-index c.loop-digit.number c.requires.digits c.loop-digit-test.true
    c.loop-digit.invariant
