use Rattle.std.proofs.Common.{arith}
use Rattle.races_command.proofs.PrintedRows.{counts_at, counts_end}
use Rattle.races_command.proofs.showing.runs_in.Goals as goal

pub overflow_add-runs : goal.overflow_add-runs
overflow_add-runs c = omega (arith, counts_at c.args.table.now c.loop-i.i c.index-table-i.result (omega arith) c.index-table-i.is, c.count-runs.ensures.count)

pub loop-i-preserved : goal.loop-i-preserved
loop-i-preserved c = omega (arith, counts_at c.args.table.now c.loop-i.i c.index-table-i.result (omega arith) c.index-table-i.is, c.count-runs.ensures.count)

pub returns : goal.returns
returns c = record { runs = omega (arith, counts_end c.args.table.now c.loop-i.i (omega arith)) }
