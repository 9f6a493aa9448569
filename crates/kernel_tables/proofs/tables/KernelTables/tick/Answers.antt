use Rattle.std.proofs.Common.{◌≡◌, ◌∙◌, ◌+◌, ◌<◌, ℕ, List, ap, sym, subst, refl, cond}
use Rattle.queue_table.specs.Table.{lists}
use Rattle.process_core.specs.Tables.{tables_of}
use Rattle.process_core.proofs.Inside.{inside_fits}
use Rattle.semaphores.specs.Counts.{beside}
use Rattle.table_laws.proofs.Tables.Ticks.{sound_later, sound_quantum}
use Rattle.xinu_model.specs.Clock.{a_tick_later, due, quantum_falls}
use Rattle.xinu_model.specs.Process.Scheduling.{resched, ready_all}
use Rattle.xinu_model.specs.Sound.Tables.{IsInside, IsSoundTables}
use Rattle.xinu_model.specs.Tables.{Tables}
use Rattle.kernel_tables.specs.KernelTables.{kernel_tables}
use Rattle.kernel_tables.specs.Waking.{are_any}
use Rattle.kernel_tables.proofs.Queues.{queues_kept, queues_later}
use Rattle.kernel_tables.proofs.Running.{few_ticks}
use Rattle.kernel_tables.proofs.Wakeups.{woken_later}
use Rattle.kernel_tables.proofs.tables.KernelTables.tick.Goals as goal

pub tick-due-requires-clause-few : goal.tick-due-requires-clause-few
tick-due-requires-clause-few c =
    let k = c.self.inside in
    let F : Tables → Type 0 = λ t. t.ticks < 4294967295 in
    few_ticks (lists k.lists) k.procs (beside k.sems k.slots k.clock) 4294967295 (subst F (sym c.self.view_is) c.requires.few)

pub wake-requires-clause-fits : goal.wake-requires-clause-fits
wake-requires-clause-fits c = let k = c.self.inside in c.tick-due.ensures.fits k.procs.processes
    (inside_fits k.lists k.procs (beside k.sems k.slots k.clock) c.self.invariant.inside)

-- they are those whose tick has come
found : (c : goal.After-spend) → c.tick-due.result.items ≡ (let t = kernel_tables c.self.inside in due (t.ticks + 1) t.sleepers)
unfolding tables_of
found c = c.tick-due.ensures.due

-- the tables are a tick later
later : (c : goal.After-spend) → kernel_tables
    (record { lists = c.spend.new.lists; procs = c.spend.new.procs; sems = c.self.inside.sems; slots = c.self.inside.slots; clock = c.tick-due.new.self })
    ≡ quantum_falls (a_tick_later (are_any c.tick-due.result.items) (ready_all c.tick-due.result.items (kernel_tables c.self.inside)))
unfolding tables_of
later c =
    let k = c.self.inside in
    let t = kernel_tables k in
    let ps = c.tick-due.result.items in
    let b = beside k.sems k.slots c.tick-due.new.self in
    let W : List ℕ → Tables → Tables = λ ps u. (let v = ready_all ps u in cond (are_any ps) (resched v) v) in
    c.spend.ensures.spent b
    ∙ ap quantum_falls (c.wake.ensures.woken b
    ∙ ap (λ l. W l (tables_of (lists c.tick-due.new.lists) k.procs b)) c.as_slice.ensures.value
    ∙ ap (W ps) (c.tick-due.ensures.ticked k.procs (beside k.sems k.slots k.clock) refl)
    ∙ woken_later t ps (found c))

pub invariant_of-self : goal.invariant_of-self
invariant_of-self c =
    let k = c.self.inside in
    let t = kernel_tables k in
    let ps = c.tick-due.result.items in
    let owes = are_any ps in
    let e = sym (later c) in
    let F : List ℕ → Type 0 = λ l. IsSoundTables (a_tick_later owes (ready_all l t)) in
    let sound : IsSoundTables t = record { inside = c.self.invariant.inside; runs = rw c.self.view_is c.requires.runs } in
    let q = queues_later (lists k.lists) (lists c.tick-due.new.lists) k.sems.entries c.self.invariant.queues
    (λ q m n. c.tick-due.ensures.others q n) c.tick-due.ensures.later in
    let w = queues_kept (lists c.tick-due.new.lists) (lists c.wake.new.lists) k.sems.entries q c.wake.ensures.others in
    record {
      inside = subst IsInside e (sound_quantum (a_tick_later owes (ready_all ps t))
          (subst F (sym (found c)) (sound_later owes t sound))).inside;
      queues = queues_kept (lists c.wake.new.lists) (lists c.spend.new.lists) k.sems.entries w c.spend.ensures.others;
    }

pub returns : goal.returns
returns c =
    let ps = c.tick-due.result.items in
    record {
      due = found c ∙ ap (λ (t : Tables). due (t.ticks + 1) t.sleepers) c.self.view_is;
      ticked = later c ∙ ap (λ t. quantum_falls (a_tick_later (are_any ps) (ready_all ps t))) c.self.view_is;
    }
