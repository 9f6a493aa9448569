use Rattle.std.proofs.Common.{◌≡◌, ◌∙◌, take, ap, sym, subst, arith}
use Rattle.queue_table.specs.Table.{lists}
use Rattle.process_core.proofs.Inside.{inside_fits}
use Rattle.semaphores.specs.Counts.{beside}
use Rattle.xinu_model.specs.Process.Scheduling.{ready_all}
use Rattle.xinu_model.specs.Sound.Tables.{IsInside, IsSoundTables}
use Rattle.xinu_model.specs.Tables.{semaphore_at, Tables}
use Rattle.std.specs.Prelude.{IsSome}
use Rattle.kernel_tables.specs.KernelTables.{kernel_tables}
use Rattle.kernel_tables.proofs.Queues.{queues_counted}
use Rattle.kernel_tables.proofs.Waiters.{entry_used, inside_signaln, used_owner}
use Rattle.kernel_tables.proofs.tables.KernelTables.signaln.Goals as goal
use Rattle.std.proofs.Common.{int_lt, pos, ◌+ℤ◌, false}
use Rattle.semaphores.proofs.Counting.{count_at}
use Rattle.xinu_model.specs.Semaphores.Counts.{count_of, most_tokens}
use Rattle.table_laws.proofs.Tables.MoveTo.{semaphore_within}

pub signaln-requires-clause-used : goal.signaln-requires-clause-used
signaln-requires-clause-used c =
    let k = c.self.inside in
    let U : Tables → Type 0 = λ t. IsSome (semaphore_at t c.args.sem).owner in
    entry_used (lists k.lists) k.procs k.sems c.args.sem k.slots k.clock (subst U (sym c.self.view_is) c.requires.used)

pub signaln-requires-clause-fits : goal.signaln-requires-clause-fits
signaln-requires-clause-fits c = let k = c.self.inside in inside_fits k.lists k.procs
    (beside k.sems k.slots k.clock) c.self.invariant.inside

pub signaln-requires-clause-room : goal.signaln-requires-clause-room
signaln-requires-clause-room c =
    let k = c.self.inside in
    let t = kernel_tables k in
    let sem = c.args.sem in
    let U : Tables → Type 0 = λ t. IsSome (semaphore_at t sem).owner in
    let R : Tables → Type 0 = λ t. int_lt most_tokens (count_of (semaphore_at t sem) +ℤ pos c.args.n) ≡ false in
    let used = used_owner (semaphore_at t sem).owner (subst U (sym c.self.view_is) c.requires.used) in
    let w = semaphore_within t sem c.self.invariant.inside.semaphores used in
    ap (λ z. int_lt most_tokens (z +ℤ pos c.args.n))
    (sym (count_at (lists k.lists) k.procs k.sems sem k.slots k.clock c.self.invariant.queues.counts w))
    ∙ subst R (sym c.self.view_is) c.requires.room

pub invariant_of-self : goal.invariant_of-self
invariant_of-self c =
    let k = c.self.inside in
    let t = kernel_tables k in
    let sem = c.args.sem in
    let n = c.args.n in
    let x = semaphore_at t sem in
    let w = c.signaln.ensures.within in
    let e = sym (c.signaln.ensures.signalled k.slots k.clock) in
    let U : Tables → Type 0 = λ t. IsSome (semaphore_at t sem).owner in
    let used = used_owner x.owner (subst U (sym c.self.view_is) c.requires.used) in
    let sound : IsSoundTables t = record { inside = c.self.invariant.inside; runs = rw c.self.view_is c.requires.runs } in
    let u = ready_all (take n x.waiters) t in
    record {
      inside = subst IsInside e (inside_signaln t sem n sound w used);
      queues = queues_counted (lists k.lists) (lists c.signaln.new.lists) c.signaln.new.self.entries c.self.invariant.queues.later
          (c.signaln.ensures.others 129 (λ e. omega (arith, w, e)) (λ e. omega arith)) c.signaln.ensures.counts;
    }
