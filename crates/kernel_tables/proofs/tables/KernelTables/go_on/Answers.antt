use Rattle.std.proofs.Common.{sym, subst}
use Rattle.queue_table.specs.Table.{lists}
use Rattle.process_core.proofs.Inside.{inside_fits}
use Rattle.semaphores.specs.Counts.{beside}
use Rattle.xinu_model.specs.Sound.Tables.{IsInside}
use Rattle.kernel_tables.specs.KernelTables.{kernel_tables}
use Rattle.xinu_model.specs.Tables.{message_at}
use Rattle.kernel_tables.proofs.Inside.{inside_goes_on}
use Rattle.kernel_tables.proofs.Running.{current_in}
use Rattle.kernel_tables.proofs.tables.KernelTables.go_on.Goals as goal

pub end_rest-requires : goal.end_rest-requires
end_rest-requires c =
    let k = c.self.inside in record {
      runs = current_in (lists k.lists) k.procs (beside k.sems k.slots k.clock)
          (rw c.self.view_is c.requires.runs);
    }

pub returns : goal.returns
returns c =
    let k = c.self.inside in
    let b = beside k.sems k.slots k.clock in
    record {
      goes_on = rw (← c.self.view_is)
          (c.end_rest.ensures.goes_on (lists k.lists) b (inside_fits k.lists k.procs b c.self.invariant.inside));
    }

pub invariant_of-self : goal.invariant_of-self
invariant_of-self c =
    let k = c.self.inside in
    let t = kernel_tables k in
    let b = beside k.sems k.slots k.clock in
    let e = sym (c.end_rest.ensures.goes_on (lists k.lists) b (inside_fits k.lists k.procs b c.self.invariant.inside)) in
    record {
      inside = subst IsInside e (inside_goes_on t (message_at t t.current) c.self.invariant.inside (rw c.self.view_is c.requires.runs));
      queues = c.self.invariant.queues;
    }
