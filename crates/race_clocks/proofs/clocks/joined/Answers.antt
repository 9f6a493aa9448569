-- One more process.
use Rattle.std.proofs.Common.{◌<◌, length, arith}
use Rattle.race_clocks.proofs.Joining.{joined_step}
use Rattle.race_clocks.proofs.clocks.joined.Goals as goal

pub loop-u-preserved : goal.loop-u-preserved
loop-u-preserved c =
    let low : c.loop-u.u < length c.loop-u.both = omega (arith, c.loop-u.invariant.size, c.told-a, c.loop-u-test.true) in
    joined_step c.args.a.now c.args.b.now c.loop-u.both c.loop-u.u c.max.result low c.max.ensures c.loop-u.invariant
