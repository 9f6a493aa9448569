use Rattle.std.proofs.Common.{sym, subst, arith}
use Rattle.queue_table.specs.Table.{lists}
use Rattle.process_core.proofs.Inside.{inside_fits}
use Rattle.semaphores.specs.Counts.{beside}
use Rattle.xinu_model.specs.Sound.Tables.{IsInside}
use Rattle.xinu_model.specs.Tables.{semaphore_at, Tables}
use Rattle.std.specs.Prelude.{IsSome}
use Rattle.kernel_tables.specs.KernelTables.{kernel_tables}
use Rattle.kernel_tables.proofs.Queues.{queues_counted}
use Rattle.kernel_tables.proofs.Waiters.{entry_used, inside_after_signal, used_owner}
use Rattle.kernel_tables.proofs.tables.KernelTables.signal.Goals as goal

pub signal-requires-clause-used : goal.signal-requires-clause-used
signal-requires-clause-used c =
    let k = c.self.inside in
    let U : Tables → Type 0 = λ t. IsSome (semaphore_at t c.args.sem).owner in
    entry_used (lists k.lists) k.procs k.sems c.args.sem k.slots k.clock (subst U (sym c.self.view_is) c.requires.used)

pub signal-requires-clause-fits : goal.signal-requires-clause-fits
signal-requires-clause-fits c = let k = c.self.inside in inside_fits k.lists k.procs (beside k.sems k.slots k.clock) c.self.invariant.inside

pub returns-clause-inside : goal.returns-clause-inside
returns-clause-inside c = subst IsInside c.self.view_is c.self.invariant.inside

pub invariant_of-self : goal.invariant_of-self
invariant_of-self c =
    let k = c.self.inside in
    let t = kernel_tables k in
    let sem = c.args.sem in
    let r = c.signal.result in
    let w = c.signal.ensures.within in
    let e = sym (c.signal.ensures.signalled k.slots k.clock) in
    let U : Tables → Type 0 = λ t. IsSome (semaphore_at t sem).owner in
    let used = used_owner (semaphore_at t sem).owner (subst U (sym c.self.view_is) c.requires.used) in
    record {
      inside = subst IsInside e (inside_after_signal t sem r (c.signal.ensures.answer k.slots k.clock) c.self.invariant.inside w used);
      queues = queues_counted (lists k.lists) (lists c.signal.new.lists) c.signal.new.self.entries c.self.invariant.queues.later
          (c.signal.ensures.others 129 (λ e. omega (arith, w, e)) (λ e. omega arith)) c.signal.ensures.counts;
    }
