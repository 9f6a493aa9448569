-- `new`: what is written of the entries so far.
use Rattle.queue_table.proofs.table.QueueTable.new.Given as goal
use Rattle.queue_table.proofs.Fresh.{Empty, Loose}

abbrev pub invariant-loop-p : goal.invariant-loop-p
invariant-loop-p g l = Loose l.p l.entries.items

abbrev pub invariant-loop-q : goal.invariant-loop-q
invariant-loop-q g l = Empty g.row.P l.q l.entries.items
