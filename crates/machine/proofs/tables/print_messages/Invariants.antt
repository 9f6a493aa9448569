-- The messages so far were printed.
use Rattle.std.proofs.Common.{map, take}
use Rattle.host_port.specs.Printing.{Prints}
use Rattle.xinu_base.specs.declared.lines.TranscriptLine.TheVariants.{Node}
use Rattle.xinu_model.specs.Text.{shown}
use Rattle.machine.proofs.tables.print_messages.Given as goal

abbrev pub invariant-loop-message : goal.invariant-loop-message
invariant-loop-message g l =
    Prints l.initial.out l.out (g.H.Host.view l.initial.host) (g.H.Host.view l.host) (shown l.initial.out.plain (map (Node l.fn.port) (take l.message-index l.messages)))
