-- `agrees`: what the walk along both lists has passed.
use Rattle.std.proofs.Common.{length}
use Rattle.queue_table.specs.Entries.{follow}
use Rattle.queue_table.proofs.Agreement.{AgreeSoFar}
use Rattle.queue_table.proofs.table.QueueTable.agrees.Given as goal

abbrev pub invariant-loop-at : goal.invariant-loop-at
invariant-loop-at g l = AgreeSoFar l.self l.other l.q l.with_keys l.at

abbrev pub decreases-loop-at : goal.decreases-loop-at
decreases-loop-at g l = length (follow g.row.P g.row.P l.self.entries.items l.at)
