-- The processes so far were printed.
use Rattle.std.proofs.Common.{take}
use Rattle.host_port.specs.Printing.{Prints}
use Rattle.xinu_model.specs.Text.{process_lines, shown}
use Rattle.machine.proofs.tables.print_processes.Given as goal

abbrev pub invariant-loop-number : goal.invariant-loop-number
invariant-loop-number g l =
    let t = l.tables in
    Prints l.initial.out l.out (g.H.Host.view l.initial.host) (g.H.Host.view l.host) (shown l.initial.out.plain (process_lines 0 (take l.number t.processes) t.messages))
