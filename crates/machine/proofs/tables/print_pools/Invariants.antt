-- The pools so far were printed.
use Rattle.std.proofs.Common.{take}
use Rattle.host_port.specs.Printing.{Prints}
use Rattle.xinu_model.specs.Text.{pool_lines, shown}
use Rattle.machine.proofs.tables.print_pools.Given as goal

abbrev pub invariant-loop-number : goal.invariant-loop-number
invariant-loop-number g l =
    Prints l.initial.out l.out (g.H.Host.view l.initial.host) (g.H.Host.view l.host) (shown l.initial.out.plain (pool_lines 0 (take l.number l.pools)))
