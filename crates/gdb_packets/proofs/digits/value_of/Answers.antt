-- Each digit is one more.
use Rattle.std.proofs.Common.{arith}
use Rattle.gdb_packets.proofs.Numbers.{value-more}
use Rattle.gdb_packets.proofs.digits.value_of.Goals as goal

pub loop-digit-preserved : goal.loop-digit-preserved
loop-digit-preserved c =
    value-more c.args.digits.now c.loop-digit.digit-index c.loop-digit.number c.digit_value.result c.min-number.result
    (omega (arith, c.loop-digit-test.true)) c.loop-digit.invariant c.digit_value.ensures.value c.min-number.ensures
