-- The replies so far were printed.
use Rattle.std.proofs.Common.{map, take}
use Rattle.host_port.specs.Printing.{Prints}
use Rattle.xinu_model.specs.Machine.{return_line}
use Rattle.xinu_model.specs.Text.{shown}
use Rattle.machine.proofs.printing.print_replies.Given as goal

abbrev pub invariant-loop-reply : goal.invariant-loop-reply
invariant-loop-reply g l =
    Prints l.initial.out l.out (g.H.Host.view l.initial.host) (g.H.Host.view l.host) (shown l.initial.out.plain (map return_line (take l.reply-index l.replies)))
