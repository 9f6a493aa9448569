use Rattle.std.proofs.Common.{sym, subst}
use Rattle.queue_table.specs.Table.{lists}
use Rattle.process_core.proofs.Inside.{inside_fits}
use Rattle.xinu_model.specs.Sound.Tables.{IsInside}
use Rattle.kernel_tables.specs.KernelTables.{kernel_tables}
use Rattle.semaphores.specs.Counts.{beside}
use Rattle.kernel_tables.proofs.Inside.{inside_self_suspended}
use Rattle.kernel_tables.proofs.Running.{current_in}
use Rattle.kernel_tables.proofs.tables.KernelTables.suspend_self.Goals as goal

pub block_current-requires-clause-runs : goal.block_current-requires-clause-runs
block_current-requires-clause-runs c =
    let k = c.self.inside in current_in (lists k.lists) k.procs (beside k.sems k.slots k.clock) (rw c.self.view_is c.requires.runs)

pub returns : goal.returns
returns c =
    let k = c.self.inside in
    let b = beside k.sems k.slots k.clock in
    record {
      suspended = rw (← c.self.view_is)
          (c.block_current.ensures.blocked (lists k.lists) b (inside_fits k.lists k.procs b c.self.invariant.inside));
    }

pub invariant_of-self : goal.invariant_of-self
invariant_of-self c =
    let k = c.self.inside in
    let t = kernel_tables k in
    let b = beside k.sems k.slots k.clock in
    let e = sym (c.block_current.ensures.blocked (lists k.lists) b (inside_fits k.lists k.procs b c.self.invariant.inside)) in
    record {
      inside = subst IsInside e (inside_self_suspended t c.self.invariant.inside (rw c.self.view_is c.requires.runs)
          (rw c.self.view_is c.requires.not_null));
      queues = c.self.invariant.queues;
    }
