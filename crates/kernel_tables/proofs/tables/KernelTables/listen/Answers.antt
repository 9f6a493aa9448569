use Rattle.std.proofs.Common.{sym, subst, refl}
use Rattle.queue_table.specs.Table.{lists}
use Rattle.process_core.proofs.Inside.{inside_fits}
use Rattle.semaphores.specs.Counts.{beside}
use Rattle.xinu_model.specs.Sound.Tables.{IsInside, IsSoundTables}
use Rattle.xinu_model.specs.Tables.{Nowhere}
use Rattle.xinu_base.specs.declared.processes.Rest.TheVariants as rest
use Rattle.xinu_base.specs.declared.processes.State.TheVariants as state
use Rattle.kernel_tables.specs.KernelTables.{kernel_tables}
use Rattle.kernel_tables.proofs.Inside.{inside_blocked}
use Rattle.kernel_tables.proofs.Running.{current_in}
use Rattle.kernel_tables.proofs.tables.KernelTables.listen.Goals as goal

pub block_current-requires-clause-runs : goal.block_current-requires-clause-runs
block_current-requires-clause-runs c = let k = c.self.inside in current_in (lists k.lists) k.procs (beside k.sems k.slots k.clock)
    (rw c.self.view_is c.requires.runs)

pub returns : goal.returns
returns c =
    let k = c.self.inside in
    let b = beside k.sems k.slots k.clock in
    record {
      listens = rw (← c.self.view_is)
          (c.block_current.ensures.blocked (lists k.lists) b (inside_fits k.lists k.procs b c.self.invariant.inside));
    }

pub invariant_of-self : goal.invariant_of-self
invariant_of-self c =
    let k = c.self.inside in
    let t = kernel_tables k in
    let b = beside k.sems k.slots k.clock in
    let e = sym (c.block_current.ensures.blocked (lists k.lists) b (inside_fits k.lists k.procs b c.self.invariant.inside)) in
    let sound : IsSoundTables t = record { inside = c.self.invariant.inside; runs = rw c.self.view_is c.requires.runs } in
    record {
      inside = subst IsInside e (inside_blocked t state.Receiving rest.Receive Nowhere sound (rw c.self.view_is c.requires.not_null)
          (λ f. cc) (refl, refl, refl) tt (refl, rw c.self.view_is c.requires.none));
      queues = c.self.invariant.queues;
    }
