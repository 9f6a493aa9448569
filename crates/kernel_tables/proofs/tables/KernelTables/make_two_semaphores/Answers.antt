use Rattle.std.proofs.Common.{sym, subst}
use Rattle.queue_table.specs.Table.{lists}
use Rattle.xinu_model.specs.Sound.Tables.{IsInside}
use Rattle.kernel_tables.specs.KernelTables.{kernel_tables}
use Rattle.kernel_tables.proofs.Waiters.{inside_two}
use Rattle.kernel_tables.proofs.tables.KernelTables.make_two_semaphores.Goals as goal

pub invariant_of-self : goal.invariant_of-self
invariant_of-self c =
    let k = c.self.inside in
    let t = kernel_tables k in
    let by = c.args.owner.now in
    let found = c.create_two.result in
    let counts = c.self.invariant.queues.counts in
    let e = sym (c.create_two.ensures.made (lists k.lists) k.procs k.slots k.clock counts) in
    record {
      inside = subst IsInside e (inside_two found by _ t c.self.invariant.inside
          (c.create_two.ensures.found (lists k.lists) k.procs k.slots k.clock counts) c.requires.no_device);
      queues = record {
        counts = c.create_two.ensures.counts
            (lists k.lists) counts;
        later = c.self.invariant.queues.later;
      };
    }
