use Rattle.races_command.proofs.PrintedParts.{shown_end, shown_step}
use Rattle.races_command.proofs.console.push_console.Goals as goal

pub loop-rest-preserved : goal.loop-rest-preserved
loop-rest-preserved c = shown_step _ _ _ _ _ c.loop-rest.rest.now c.loop-rest.invariant c.first_line.ensures.lines c.in_ok-push_line.ensures.line

pub returns : goal.returns
returns c = record { console = shown_end _ _ c.loop-rest.rest.now c.loop-rest.invariant c.loop-rest-test.ensures }
