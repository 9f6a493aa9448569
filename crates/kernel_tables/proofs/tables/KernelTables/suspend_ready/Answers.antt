use Rattle.std.proofs.Common.{◌≡◌, ◌∙◌, sym, subst}
use Rattle.xinu_base.specs.declared.processes.State.TheVariants.{Ready}
use Rattle.queue_table.specs.Table.{lists}
use Rattle.process_core.proofs.Inside.{inside_fits}
use Rattle.xinu_model.specs.Sound.Tables.{IsInside}
use Rattle.xinu_model.specs.Tables.{state_at}
use Rattle.kernel_tables.specs.KernelTables.{kernel_tables}
use Rattle.semaphores.specs.Counts.{beside}
use Rattle.kernel_tables.proofs.Queues.{queues_kept, state_in}
use Rattle.kernel_tables.proofs.Inside.{inside_suspended}
use Rattle.kernel_tables.proofs.tables.KernelTables.suspend_ready.Goals as goal

pub suspend_ready-requires-clause-fits : goal.suspend_ready-requires-clause-fits
suspend_ready-requires-clause-fits c = let k = c.self.inside in inside_fits k.lists k.procs
    (beside k.sems k.slots k.clock) c.self.invariant.inside

pub suspend_ready-requires-clause-ready : goal.suspend_ready-requires-clause-ready
suspend_ready-requires-clause-ready c =
    let k = c.self.inside in
    let h : state_at (kernel_tables k) c.args.p ≡ Ready = rw c.self.view_is c.requires.ready in
    sym (state_in (lists k.lists) k.procs (beside k.sems k.slots k.clock) c.args.p) ∙ h

pub invariant_of-self : goal.invariant_of-self
invariant_of-self c =
    let k = c.self.inside in
    let t = kernel_tables k in
    let p = c.args.p in
    let e = sym (c.suspend_ready.ensures.suspended (beside k.sems k.slots k.clock)) in
    record {
      inside = subst IsInside e (inside_suspended t p c.self.invariant.inside c.requires.not_null (rw c.self.view_is c.requires.ready));
      queues = queues_kept (lists k.lists)
          (lists c.suspend_ready.new.lists) k.sems.entries c.self.invariant.queues c.suspend_ready.ensures.others;
    }
