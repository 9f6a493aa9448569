-- `first_later`: what the walk has passed, and what is left of the delay.
use Rattle.std.proofs.Common.{◌≡◌, ◌++◌, List, length, pos, ◌≤ℤ◌, ◌+ℤ◌}
use Rattle.queue_table.specs.Lists.{Entry, key_sum, list_at}
use Rattle.queue_table.specs.Table.{lists}
use Rattle.queue_table.specs.Entries.{first_to, follow, tail_of}
use Rattle.queue_table.proofs.table.QueueTable.first_later.Given as goal

-- the walk has passed `pre`, and `left` is the delay less its keys
abbrev pub invariant-loop-at : goal.invariant-loop-at
invariant-loop-at g l = (pre : List Entry) × (post : List Entry) × (list_at (lists l.self) l.q ≡ pre ++ post) × (l.at ≡ first_to post (tail_of g.row.P l.q)) × (pos 0 ≤ℤ l.left) × (l.left +ℤ key_sum pre ≡ l.fn.delay)

abbrev pub decreases-loop-at : goal.decreases-loop-at
decreases-loop-at g l = length (follow g.row.P g.row.P l.self.entries.items l.at)
