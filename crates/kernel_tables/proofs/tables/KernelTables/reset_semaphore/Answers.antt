use Rattle.std.proofs.Common.{sym, subst, arith}
use Rattle.queue_table.specs.Table.{lists}
use Rattle.process_core.proofs.Inside.{inside_fits}
use Rattle.semaphores.specs.Counts.{beside}
use Rattle.xinu_model.specs.Sound.Tables.{IsInside, IsSoundTables}
use Rattle.xinu_model.specs.Tables.{semaphore_at, Tables}
use Rattle.std.specs.Prelude.{IsSome}
use Rattle.kernel_tables.specs.KernelTables.{kernel_tables}
use Rattle.kernel_tables.proofs.Queues.{queues_counted}
use Rattle.kernel_tables.proofs.Waiters.{entry_used, inside_reset, used_owner}
use Rattle.kernel_tables.proofs.tables.KernelTables.reset_semaphore.Goals as goal

pub release_all-requires-clause-used : goal.release_all-requires-clause-used
release_all-requires-clause-used c =
    let k = c.self.inside in
    let U : Tables → Type 0 = λ t. IsSome (semaphore_at t c.args.sem).owner in
    entry_used (lists k.lists) k.procs k.sems c.args.sem k.slots k.clock (subst U (sym c.self.view_is) c.requires.used)

pub release_all-requires-clause-fits : goal.release_all-requires-clause-fits
release_all-requires-clause-fits c = let k = c.self.inside in inside_fits k.lists k.procs
    (beside k.sems k.slots k.clock) c.self.invariant.inside

pub invariant_of-self : goal.invariant_of-self
invariant_of-self c =
    let k = c.self.inside in
    let t = kernel_tables k in
    let sem = c.args.sem in
    let x = semaphore_at t sem in
    let w = c.release_all.ensures.within in
    let e = sym (c.release_all.ensures.reset k.slots k.clock) in
    let U : Tables → Type 0 = λ t. IsSome (semaphore_at t sem).owner in
    let used = used_owner x.owner (subst U (sym c.self.view_is) c.requires.used) in
    let sound : IsSoundTables t = record { inside = c.self.invariant.inside; runs = rw c.self.view_is c.requires.runs } in
    record {
      inside = subst IsInside e (inside_reset t sem _ sound w used);
      queues = queues_counted (lists k.lists) (lists c.release_all.new.lists) c.release_all.new.self.entries c.self.invariant.queues.later
          (c.release_all.ensures.others 129 (λ e. omega (arith, w, e)) (λ e. omega arith)) c.release_all.ensures.counts;
    }
