use Rattle.races_command.proofs.PrintedParts.{no_places, places_end}
use Rattle.std.proofs.Common.{arith}
use Rattle.races_command.proofs.texts.push_places.Goals as goal

pub returns-then-is_empty : goal.returns-then-is_empty
returns-then-is_empty c = record { places = no_places _ c.args.text.now.items c.args.places.now c.in_ok-extend_from_slice.ensures.items c.if-is_empty.ensures }

pub returns : goal.returns
returns c = record { places = places_end _ c.args.text.now.items c.args.places.now c.loop-place.place-index c.loop-place.invariant (omega arith) c.if-is_empty.ensures }
