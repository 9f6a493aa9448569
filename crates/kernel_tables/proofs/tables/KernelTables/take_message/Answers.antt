use Rattle.std.proofs.Common.{None, sym, subst}
use Rattle.queue_table.specs.Table.{lists}
use Rattle.process_core.proofs.Inside.{inside_fits}
use Rattle.semaphores.specs.Counts.{beside}
use Rattle.xinu_model.specs.Sound.Tables.{IsInside}
use Rattle.kernel_tables.specs.KernelTables.{kernel_tables}
use Rattle.kernel_tables.proofs.Inside.{inside_goes_on}
use Rattle.kernel_tables.proofs.Running.{current_in, if_some}
use Rattle.kernel_tables.proofs.tables.KernelTables.take_message.Goals as goal

pub take_current-requires : goal.take_current-requires
take_current-requires c =
    let k = c.self.inside in record {
      runs = current_in (lists k.lists) k.procs (beside k.sems k.slots k.clock)
          (rw c.self.view_is c.requires.runs);
    }

pub returns-then-is_some-clause-taken : goal.returns-then-is_some-clause-taken
returns-then-is_some-clause-taken c =
    let k = c.self.inside in
    let b = beside k.sems k.slots k.clock in
    if_some c.message_of-message.result _
    (rw (← c.self.view_is) (c.take_current.ensures.taken (lists k.lists) k.sems k.clock
    (inside_fits k.lists k.procs b c.self.invariant.inside)))

pub invariant_of-self : goal.invariant_of-self
invariant_of-self c =
    let k = c.self.inside in
    let t = kernel_tables k in
    let b = beside k.sems k.slots k.clock in
    let e = sym (c.take_current.ensures.taken (lists k.lists) k.sems k.clock (inside_fits k.lists k.procs b c.self.invariant.inside)) in
    record {
      inside = subst IsInside e (inside_goes_on t None c.self.invariant.inside (rw c.self.view_is c.requires.runs));
      queues = c.self.invariant.queues;
    }
