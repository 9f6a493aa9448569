-- The free buffers so far were printed.
use Rattle.std.proofs.Common.{map, take}
use Rattle.host_port.specs.Printing.{Prints}
use Rattle.xinu_base.specs.declared.lines.TranscriptLine.TheVariants.{Buffer}
use Rattle.xinu_model.specs.Pools.Buffers.{pool_at}
use Rattle.xinu_model.specs.Text.{shown}
use Rattle.machine.proofs.tables.print_buffers.Given as goal

abbrev pub invariant-loop-k : goal.invariant-loop-k
invariant-loop-k g l =
    Prints l.initial.out l.out (g.H.Host.view l.initial.host) (g.H.Host.view l.host) (shown l.initial.out.plain (map (Buffer l.pool) (take l.k (pool_at l.pools l.pool).free)))
