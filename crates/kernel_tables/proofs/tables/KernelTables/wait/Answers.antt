use Rattle.std.proofs.Common.{◌≡◌, ◌∙◌, ◌-◌, cond, ap, sym, subst, arith}
use Rattle.queue_table.specs.Table.{lists}
use Rattle.process_core.specs.Tables.{tables_of}
use Rattle.process_core.proofs.Inside.{inside_fits}
use Rattle.semaphores.specs.Counts.{beside}
use Rattle.xinu_model.specs.Semaphores.Counts.{with_tokens}
use Rattle.xinu_model.specs.Sound.Tables.{IsInside, IsSoundTables}
use Rattle.xinu_model.specs.Tables.{InSemaphore, message_at, move_to, process_at, semaphore_at, Tables}
use Rattle.xinu_base.specs.declared.processes.State.TheVariants.{Waiting}
use Rattle.std.specs.Prelude.{IsSome}
use Rattle.kernel_tables.specs.KernelTables.{kernel_tables}
use Rattle.kernel_tables.proofs.Queues.{queues_counted}
use Rattle.kernel_tables.proofs.Running.{current_in}
use Rattle.kernel_tables.proofs.Waiters.{entry_used, fits_used, inside_waits, left_waiting}
use Rattle.table_laws.proofs.Preserve.{current_within}
use Rattle.kernel_tables.proofs.tables.KernelTables.wait.Goals as goal

pub wait-took-requires-clause-used : goal.wait-took-requires-clause-used
wait-took-requires-clause-used c =
    let k = c.self.inside in
    let U : Tables → Type 0 = λ t. IsSome (semaphore_at t c.args.sem).owner in
    entry_used (lists k.lists) k.procs k.sems c.args.sem k.slots k.clock
    (subst U (sym c.self.view_is) (fits_used c.args.sem (semaphore_at c.args.self.now c.args.sem).owner c.args.rest c.requires.owner))

pub wait-took-requires-clause-fits : goal.wait-took-requires-clause-fits
wait-took-requires-clause-fits c = let k = c.self.inside in inside_fits k.lists k.procs
    (beside k.sems k.slots k.clock) c.self.invariant.inside

pub wait-took-requires-clause-runs : goal.wait-took-requires-clause-runs
wait-took-requires-clause-runs c =
    let k = c.self.inside in current_in (lists k.lists) k.procs (beside k.sems k.slots k.clock) (rw c.self.view_is c.requires.runs)

-- the tables are sound before
sound : (c : goal.After-leave_rest) → IsSoundTables (kernel_tables c.self.inside)
sound c = record { inside = c.self.invariant.inside; runs = rw c.self.view_is c.requires.runs }

-- a token is taken, or the current process waits
waits : (c : goal.After-leave_rest)
    → kernel_tables (record { lists = c.wait-took.new.lists; procs = c.leave_rest.new.procs; sems = c.wait-took.new.self; slots = c.self.inside.slots; clock = c.self.inside.clock })
    ≡ (let t = kernel_tables c.self.inside in cond c.wait-took.result (with_tokens c.args.sem ((semaphore_at t c.args.sem).tokens - 1) t)
    (move_to t.current (record (process_at t t.current) { state = Waiting; rest = c.args.rest }) (message_at t t.current)
    (InSemaphore c.args.sem) t))
waits c =
    let k = c.self.inside in
    let t = kernel_tables k in
    let b = beside c.wait-took.new.self k.slots k.clock in
    let w = current_within t (sound c) in
    ap (λ s. tables_of (lists c.wait-took.new.lists) s b) c.leave_rest.ensures.procs
    ∙ left_waiting c.wait-took.result (lists c.wait-took.new.lists) c.wait-took.new.procs b t
    (with_tokens c.args.sem ((semaphore_at t c.args.sem).tokens - 1) t) (message_at t t.current) c.args.sem c.args.rest
    (omega (arith, w, c.self.invariant.inside.processes)) (c.wait-took.ensures.waits k.slots k.clock)

pub returns-clause-waits : goal.returns-clause-waits
returns-clause-waits c = rw (← c.self.view_is) (waits c)

pub invariant_of-self : goal.invariant_of-self
invariant_of-self c =
    let k = c.self.inside in
    let t = kernel_tables k in
    let sem = c.args.sem in
    let w = c.wait-took.ensures.within in
    let e = sym (waits c) in
    record {
      inside = subst IsInside e (inside_waits t sem c.args.rest c.wait-took.result (sound c) (rw c.self.view_is c.requires.not_null) w
          (rw c.self.view_is c.requires.owner) (c.wait-took.ensures.took k.slots k.clock));
      queues = queues_counted (lists k.lists) (lists c.wait-took.new.lists) c.wait-took.new.self.entries c.self.invariant.queues.later
          (c.wait-took.ensures.others 129 (λ e. omega (arith, w, e))) c.wait-took.ensures.counts;
    }
