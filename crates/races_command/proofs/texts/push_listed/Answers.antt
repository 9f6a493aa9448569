use Rattle.races_command.proofs.PrintedParts.{listed_end, listed_step}
use Rattle.races_command.proofs.texts.push_listed.Goals as goal

pub loop-rest-preserved : goal.loop-rest-preserved
loop-rest-preserved c =
    listed_step _ _ _ _ _ _ _ c.loop-rest.rest.now c.loop-rest.invariant c.first_line.ensures.lines
    c.in_ok-extend_from_slice.ensures.items c.in_ok-push_named.ensures.named c.in_ok-extend_from_slice-2.ensures.items

pub returns : goal.returns
returns c = record { listed = listed_end _ _ c.loop-rest.rest.now c.loop-rest.invariant c.loop-rest-test.ensures }
