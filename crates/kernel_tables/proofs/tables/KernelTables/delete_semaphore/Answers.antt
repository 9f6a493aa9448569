use Rattle.std.proofs.Common.{◌≡◌, ◌≢◌, ◌∙◌, Some, ap, sym, subst, arith}
use Rattle.queue_table.specs.Table.{lists}
use Rattle.process_core.proofs.Inside.{inside_fits}
use Rattle.semaphores.specs.Counts.{beside}
use Rattle.xinu_model.specs.Process.Scheduling.{ready_all}
use Rattle.xinu_model.specs.Semaphores.Counts.{with_semaphore}
use Rattle.xinu_model.specs.Sound.Tables.{IsInside, IsSoundTables}
use Rattle.xinu_base.specs.declared.semaphores.Owner.TheVariants.{Device}
use Rattle.xinu_model.specs.Tables.{no_semaphore, semaphore_at, Tables}
use Rattle.std.specs.Prelude.{IsSome}
use Rattle.kernel_tables.specs.KernelTables.{kernel_tables}
use Rattle.kernel_tables.proofs.Queues.{queues_counted}
use Rattle.kernel_tables.proofs.Waiters.{entry_used, inside_deleted, written_twice}
use Rattle.kernel_tables.proofs.tables.KernelTables.delete_semaphore.Goals as goal

pub release_all-released-requires-clause-used : goal.release_all-released-requires-clause-used
release_all-released-requires-clause-used c =
    let k = c.self.inside in
    let U : Tables → Type 0 = λ t. IsSome (semaphore_at t c.args.sem).owner in
    entry_used (lists k.lists) k.procs k.sems c.args.sem k.slots k.clock (subst U (sym c.self.view_is) c.requires.used)

pub release_all-released-requires-clause-fits : goal.release_all-released-requires-clause-fits
release_all-released-requires-clause-fits c = let k = c.self.inside in inside_fits k.lists k.procs
    (beside k.sems k.slots k.clock) c.self.invariant.inside

-- the waiters are ready and it is given up
deleted : (c : goal.After-delete)
    → kernel_tables (record { lists = c.release_all-released.new.lists; procs = c.release_all-released.new.procs; sems = c.delete.new.self; slots = c.self.inside.slots; clock = c.self.inside.clock })
    ≡ (let t = kernel_tables c.self.inside in with_semaphore c.args.sem no_semaphore (ready_all (semaphore_at t c.args.sem).waiters t))
deleted c =
    let k = c.self.inside in
    let t = kernel_tables k in
    let sem = c.args.sem in
    c.delete.ensures.deleted c.release_all-released.new.procs k.slots k.clock
    ∙ ap (with_semaphore sem no_semaphore) (c.release_all-released.ensures.reset k.slots k.clock)
    ∙ written_twice sem _ no_semaphore (ready_all (semaphore_at t sem).waiters t)

pub returns-clause-deleted : goal.returns-clause-deleted
returns-clause-deleted c = rw (← c.self.view_is) (deleted c)

pub invariant_of-self : goal.invariant_of-self
invariant_of-self c =
    let k = c.self.inside in
    let t = kernel_tables k in
    let sem = c.args.sem in
    let x = semaphore_at t sem in
    let w = c.release_all-released.ensures.within in
    let e = sym (deleted c) in
    let sound : IsSoundTables t = record { inside = c.self.invariant.inside; runs = rw c.self.view_is c.requires.runs } in
    let N : Tables → Type 0 = λ t. (semaphore_at t sem).owner ≢ Some Device in
    record {
      inside = subst IsInside e (inside_deleted t sem sound w (subst N (sym c.self.view_is) c.requires.no_device));
      queues = queues_counted (lists k.lists)
          (lists c.release_all-released.new.lists) c.delete.new.self.entries c.self.invariant.queues.later
          (c.release_all-released.ensures.others 129 (λ e. omega (arith, w, e)) (λ e. omega arith)) c.delete.ensures.counts;
    }
