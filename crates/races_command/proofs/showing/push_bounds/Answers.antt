use Rattle.std.proofs.Common.{arith}
use Rattle.races_command.proofs.PrintedParts.{bounds_are}
use Rattle.races_command.proofs.showing.push_bounds.Goals as goal

pub returns : goal.returns
returns c = record {
  bounds = bounds_are _ _ _ _ c.args.most _ c.args.stretch c.in_ok-extend_from_slice.ensures.items c.in_ok-push_number_of.ensures.number
      c.in_ok-push_stretch.ensures.stretch (omega (arith, c.ranges.most.fits));
}
