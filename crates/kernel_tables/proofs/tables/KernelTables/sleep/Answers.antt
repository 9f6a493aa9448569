use Rattle.std.proofs.Common.{◌≡◌, ◌∙◌, ap, sym, subst, refl, rules, w32}
use Rattle.std.proofs.lemmas.Int.{to_z-of_z}
use mir.Val.{SFits}
use Rattle.queue_table.specs.Table.{lists}
use Rattle.process_core.specs.Tables.{tables_of, wake_tick}
use Rattle.process_core.proofs.Inside.{inside_fits}
use Rattle.semaphores.specs.Counts.{beside}
use Rattle.xinu_model.specs.Sound.Tables.{IsInside, IsSoundTables}
use Rattle.xinu_model.specs.Tables.{InSleepers, message_at, move_to, process_at}
use Rattle.xinu_base.specs.declared.processes.Rest.TheVariants as rest
use Rattle.xinu_base.specs.declared.processes.State.TheVariants as state
use Rattle.kernel_tables.specs.KernelTables.{kernel_tables}
use Rattle.kernel_tables.proofs.Inside.{inside_blocked}
use Rattle.kernel_tables.proofs.Queues.{queues_later}
use Rattle.kernel_tables.proofs.Running.{current_in, later_tick, wakes_at}
use Rattle.kernel_tables.proofs.tables.KernelTables.sleep.Goals as goal

pub sleep_current-requires-clause-runs : goal.sleep_current-requires-clause-runs
sleep_current-requires-clause-runs c = let k = c.self.inside in current_in (lists k.lists) k.procs (beside k.sems k.slots k.clock)
    (rw c.self.view_is c.requires.runs)

pub sleep_current-requires-clause-fits : goal.sleep_current-requires-clause-fits
sleep_current-requires-clause-fits c = let k = c.self.inside in inside_fits k.lists k.procs
    (beside k.sems k.slots k.clock) c.self.invariant.inside

-- it goes to the sleepers
sleeps : (c : goal.After-sleep_current)
    → kernel_tables (record { lists = c.sleep_current.new.lists; procs = c.sleep_current.new.procs; sems = c.self.inside.sems; slots = c.self.inside.slots; clock = c.sleep_current.new.clock })
    ≡ (let t = kernel_tables c.self.inside in
    move_to t.current (record (process_at t t.current) { state = state.Sleeping; rest = rest.Nothing }) (message_at t t.current)
    (InSleepers (wake_tick t.ticks c.args.delay)) t)
sleeps c =
    let f : SFits w32 c.args.delay = search rules in
    let k = c.self.inside in
    let t = kernel_tables k in
    let b = beside k.sems k.slots k.clock in
    let x = record (process_at t t.current) { state = state.Sleeping; rest = rest.Nothing } in
    ap (λ n. tables_of (lists c.sleep_current.new.lists) c.sleep_current.new.procs (beside k.sems k.slots n)) c.sleep_current.ensures.same
    ∙ c.sleep_current.ensures.sleeps b
    ∙ ap (λ z. move_to t.current x (message_at t t.current) (InSleepers (wake_tick k.clock z)) t) (to_z-of_z w32 c.args.delay f)
    ∙ ap (λ n. move_to t.current x (message_at t t.current) (InSleepers n) t) (wakes_at (lists k.lists) k.procs b c.args.delay)

pub returns : goal.returns
returns c = record { sleeps = rw (← c.self.view_is) (sleeps c) }

pub invariant_of-self : goal.invariant_of-self
invariant_of-self c =
    let k = c.self.inside in
    let t = kernel_tables k in
    let e = sym (sleeps c) in
    let sound : IsSoundTables t = record { inside = c.self.invariant.inside; runs = rw c.self.view_is c.requires.runs } in
    record {
      inside = subst IsInside e (inside_blocked t state.Sleeping rest.Nothing (InSleepers (wake_tick t.ticks c.args.delay)) sound
          (rw c.self.view_is c.requires.not_null) (λ f. cc) (refl, refl, refl) (later_tick t.ticks c.args.delay c.requires.longer) refl);
      queues = queues_later (lists k.lists) (lists c.sleep_current.new.lists) k.sems.entries c.self.invariant.queues
          (λ q m n. c.sleep_current.ensures.others q n) c.sleep_current.ensures.later;
    }
