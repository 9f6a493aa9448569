use Rattle.std.proofs.Common.{sym, subst}
use Rattle.queue_table.specs.Table.{lists}
use Rattle.process_core.proofs.Inside.{inside_fits}
use Rattle.xinu_model.specs.Sound.Tables.{IsInside}
use Rattle.table_laws.proofs.Tables.Scheduling.{sound_resched}
use Rattle.kernel_tables.specs.KernelTables.{kernel_tables}
use Rattle.semaphores.specs.Counts.{beside}
use Rattle.kernel_tables.proofs.Queues.{queues_kept}
use Rattle.kernel_tables.proofs.tables.KernelTables.resched.Goals as goal

pub resched-requires : goal.resched-requires
resched-requires c = let k = c.self.inside in record {
  fits = inside_fits k.lists k.procs
      (beside k.sems k.slots k.clock) c.self.invariant.inside;
}

pub invariant_of-self : goal.invariant_of-self
invariant_of-self c =
    let k = c.self.inside in
    let t = kernel_tables k in
    let e = sym (c.resched.ensures.resched (beside k.sems k.slots k.clock)) in
    record {
      inside = subst IsInside e (sound_resched t c.self.invariant.inside).inside;
      queues = queues_kept (lists k.lists) (lists c.resched.new.lists) k.sems.entries c.self.invariant.queues c.resched.ensures.others;
    }
