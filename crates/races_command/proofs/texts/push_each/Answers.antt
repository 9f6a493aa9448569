use Rattle.std.proofs.Common.{arith}
use Rattle.races_command.proofs.PrintedMoments.{moments_end, moments_step}
use Rattle.races_command.proofs.texts.push_each.Goals as goal

pub loop-i-preserved : goal.loop-i-preserved
loop-i-preserved c =
    moments_step _ _ _ _ c.args.places.now c.args.base.now c.loop-i.i 0 _ c.loop-i.invariant (omega arith) c.in_ok-extend_from_slice.ensures.items
    c.in_ok-push_number.ensures.number
    (omega (arith, c.events_before.ensures.before, c.events_before.ensures.inside, c.requires.base, c.requires.few, c.loop-i-test.true))

pub returns : goal.returns
returns c = record { each = moments_end _ _ c.args.places.now c.args.base.now c.loop-i.i c.loop-i.invariant (omega arith) }
