-- What is left to be taken out gives the whole.
use Rattle.std.proofs.Common.{length}
use Rattle.arrayvec.specs.ArrayVec.{array_vec_len}
use Rattle.queue_table.specs.Lists.{list_at}
use Rattle.queue_table.specs.Table.{lists}
use Rattle.delta_clock.proofs.Waking.{IsWaking}
use Rattle.delta_clock.proofs.clock.take_due.Given as goal

abbrev pub invariant-loop-p : goal.invariant-loop-p
invariant-loop-p l = IsWaking (lists l.fn.lists) (lists l.lists) l.due.items (array_vec_len l.due)

abbrev pub decreases-loop-p : goal.decreases-loop-p
decreases-loop-p l = length (list_at (lists l.lists) 129)
