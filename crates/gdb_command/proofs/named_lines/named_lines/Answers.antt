use Rattle.gdb_command.proofs.NamedText.{named_end, named_step}
use Rattle.gdb_command.proofs.named_lines.named_lines.Goals as goal

pub loop-rest-preserved : goal.loop-rest-preserved
loop-rest-preserved c =
    named_step _ _ _ _ _ _ c.loop-rest.rest.now c.loop-rest.invariant c.first_line.ensures.lines c.in_ok-push_named.ensures.named
    c.in_ok-extend_from_slice.ensures.items

pub returns : goal.returns
returns c = record { named = named_end _ _ c.loop-rest.rest.now c.loop-rest.invariant c.loop-rest-test.ensures }
