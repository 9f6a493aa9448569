use Rattle.queue_table.proofs.Laws.{queues_of}
use Rattle.queue_table.specs.Table.{lists}
use Rattle.lists_c.proofs.Holding.{first_ready_out}
use Rattle.lists_c.proofs.lists.HeldLists.next_ready.Goals as goal

pub invariant_of-self : goal.invariant_of-self
invariant_of-self c =
    (first_ready_out (lists c.self.inside.table) (lists c.dequeue.new.self) (queues_of c.self.inside.table) c.self.invariant c.dequeue.ensures.lists).kept
