use Rattle.std.proofs.Common.{◌≡◌, ◌∙◌, sym, subst}
use Rattle.xinu_base.specs.declared.processes.State.TheVariants.{Suspended}
use Rattle.queue_table.specs.Table.{lists}
use Rattle.process_core.proofs.Fitting.{suspended_nowhere}
use Rattle.process_core.proofs.Inside.{inside_fits}
use Rattle.xinu_model.specs.Tables.{state_at}
use Rattle.xinu_model.specs.Sound.Tables.{IsInside}
use Rattle.kernel_tables.specs.KernelTables.{kernel_tables}
use Rattle.semaphores.specs.Counts.{beside}
use Rattle.kernel_tables.proofs.Queues.{queues_kept, state_in}
use Rattle.kernel_tables.proofs.Inside.{inside_resumed}
use Rattle.kernel_tables.proofs.tables.KernelTables.ready.Goals as goal

pub ready_defer-requires-clause-fits : goal.ready_defer-requires-clause-fits
ready_defer-requires-clause-fits c = let k = c.self.inside in inside_fits k.lists k.procs
    (beside k.sems k.slots k.clock) c.self.invariant.inside

pub ready_defer-requires-clause-absent : goal.ready_defer-requires-clause-absent
ready_defer-requires-clause-absent c =
    let k = c.self.inside in
    let h : state_at (kernel_tables k) c.args.p ≡ Suspended = rw c.self.view_is c.requires.suspended in
    suspended_nowhere (lists k.lists) k.procs.processes c.args.p
    (inside_fits k.lists k.procs (beside k.sems k.slots k.clock) c.self.invariant.inside)
    (sym (state_in (lists k.lists) k.procs (beside k.sems k.slots k.clock) c.args.p) ∙ h)

pub invariant_of-self : goal.invariant_of-self
invariant_of-self c =
    let k = c.self.inside in
    let t = kernel_tables k in
    let e = sym (c.ready_defer.ensures.readied (beside k.sems k.slots k.clock)) in
    record {
      inside = subst IsInside e (inside_resumed t c.args.p c.self.invariant.inside (rw c.self.view_is c.requires.suspended));
      queues = queues_kept (lists k.lists)
          (lists c.ready_defer.new.lists) k.sems.entries c.self.invariant.queues c.ready_defer.ensures.others;
    }
