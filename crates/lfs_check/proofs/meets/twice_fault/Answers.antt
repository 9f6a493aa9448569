use Rattle.std.proofs.Common.{arith, nat_le, slice_index}
use Rattle.std.proofs.lemmas.Bool.Decides.{nat_tests}
use Rattle.lfs_check.proofs.Counts.{first_from-yes, first_from-no, first_from-none}
use Rattle.lfs_check.proofs.meets.twice_fault.Goals as goal

pub returns-then-counts-low-ge2 : goal.returns-then-counts-low-ge2
returns-then-counts-low-ge2 c = first_from-yes (λ n. nat_le 2 (slice_index c.args.counts.now n)) c.args.low c.args.many c.loop-i.i c.loop-i-test.true
    (let h = c.if-counts-low-ge2.true in grind (arith, nat_tests)) c.loop-i.invariant

pub loop-i-preserved : goal.loop-i-preserved
loop-i-preserved c = first_from-no (λ n. nat_le 2 (slice_index c.args.counts.now n)) c.args.low c.args.many c.loop-i.i c.loop-i-test.true
    (let h = c.if-counts-low-ge2.false in grind (arith, nat_tests)) c.loop-i.invariant

pub returns : goal.returns
returns c = first_from-none (λ n. nat_le 2 (slice_index c.args.counts.now n)) c.args.low c.args.many c.loop-i.i c.loop-i-test.false c.loop-i.invariant
