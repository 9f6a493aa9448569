-- The nodes so far and those from the next on are all nodes of the queue.
use Rattle.std.proofs.Common.{◌-◌}
use Rattle.arrayvec.specs.ArrayVec.{array_vec_len}
use Rattle.queue_table.specs.Lists.{list_at}
use Rattle.queue_table.specs.Table.{lists}
use Rattle.ports.proofs.Walking.{IsWalk}
use Rattle.ports.proofs.nodes.words_of.Given as goal

abbrev pub invariant-loop-next : goal.invariant-loop-next
invariant-loop-next l = IsWalk l.words (list_at (lists l.links) l.queue) l.found.items (array_vec_len l.found) l.next

abbrev pub decreases-loop-next : goal.decreases-loop-next
decreases-loop-next l = 100 - array_vec_len l.found
