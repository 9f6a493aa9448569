-- `first_below`: what the walk has passed.
use Rattle.std.proofs.Common.{◌≡◌, ◌++◌, List, length}
use Rattle.queue_table.specs.Lists.{Entry, KeysAtLeast, list_at}
use Rattle.queue_table.specs.Table.{lists}
use Rattle.queue_table.specs.Entries.{first_to, follow, tail_of}
use Rattle.queue_table.proofs.table.QueueTable.first_below.Given as goal

-- the walk has passed `pre`, whose keys are not less, and is at the rest
abbrev pub invariant-loop-at : goal.invariant-loop-at
invariant-loop-at g l = (pre : List Entry) × (post : List Entry) × (list_at (lists l.self) l.q ≡ pre ++ post) × KeysAtLeast l.fn.key pre × (l.at ≡ first_to post (tail_of g.row.P l.q))

abbrev pub decreases-loop-at : goal.decreases-loop-at
decreases-loop-at g l = length (follow g.row.P g.row.P l.self.entries.items l.at)
