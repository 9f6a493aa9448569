use Rattle.std.proofs.Common.{sym, subst}
use Rattle.queue_table.specs.Table.{lists}
use Rattle.xinu_model.specs.Sound.Tables.{IsInside}
use Rattle.kernel_tables.specs.KernelTables.{kernel_tables}
use Rattle.kernel_tables.proofs.Waiters.{inside_made}
use Rattle.kernel_tables.proofs.tables.KernelTables.make_semaphore.Goals as goal

pub invariant_of-self : goal.invariant_of-self
invariant_of-self c =
    let k = c.self.inside in
    let t = kernel_tables k in
    let found = c.create.result in
    let e = sym (c.create.ensures.made (lists k.lists) k.procs k.slots k.clock c.self.invariant.queues.counts) in
    record {
      inside = subst IsInside e (inside_made found c.args.owner _ t c.self.invariant.inside
          (c.create.ensures.found (lists k.lists) k.procs k.slots k.clock) c.requires.no_device);
      queues = record {
        counts = c.create.ensures.counts
            (lists k.lists) c.self.invariant.queues.counts;
        later = c.self.invariant.queues.later;
      };
    }
