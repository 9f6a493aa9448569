use Rattle.std.proofs.Common.{◌∙◌, ap, sym}
use Rattle.queue_table.proofs.Linked.{linked_of}
use Rattle.queue_table.specs.Table.{lists}
use Rattle.semaphores.proofs.Counting.{waiters_at}
use Rattle.xinu_model.specs.Tables.{semaphore_at, Tables}
use Rattle.kernel_tables.proofs.tables.KernelTables.lists.Goals as goal

pub returns-clause-linked : goal.returns-clause-linked
returns-clause-linked c = linked_of c.self.inside.lists

pub returns-clause-waiters : goal.returns-clause-waiters
returns-clause-waiters c = λ sem few.
    let k = c.self.inside in
    sym (ap (λ (t : Tables). (semaphore_at t sem).waiters) c.self.view_is)
    ∙ waiters_at (lists k.lists) k.procs k.sems sem k.slots k.clock c.self.invariant.queues.counts.size few
