-- `place_of`: how far the walk is.
use Rattle.std.proofs.Common.{◌≡◌, ◌++◌, ℕ, List, Some, length}
use Rattle.queue_table.specs.Lists.{Entry, list_at, place}
use Rattle.queue_table.specs.Table.{lists}
use Rattle.queue_table.specs.Entries.{first_to, follow, tail_of}
use Rattle.queue_table.proofs.table.QueueTable.place_of.Given as goal

-- the walk is in the list that p is in, or at its tail
abbrev pub invariant-loop-at : goal.invariant-loop-at
invariant-loop-at g l = (q : ℕ) × (pre : List Entry) × (post : List Entry) × (place (lists l.self) l.p ≡ Some q) × (list_at (lists l.self) q ≡ pre ++ post) × (l.at ≡ first_to post (tail_of g.row.P q))

abbrev pub decreases-loop-at : goal.decreases-loop-at
decreases-loop-at g l = length (follow g.row.P g.row.P l.self.entries.items l.at)
