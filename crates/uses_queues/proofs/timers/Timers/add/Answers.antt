use mir.Val.{SFits}
use Rattle.std.proofs.Common.{rules, w32, ℤ, ◌≡◌, true, false, sym, ◌∙◌, List, pos, ◌≤ℤ◌, ap, arith}
use Rattle.std.proofs.lemmas.Bool.{true≢false}
use Rattle.std.proofs.lemmas.Int.{ints, to_z-of_z}
use Rattle.queue_table.proofs.Laws.{queues_of}
use Rattle.queue_table.specs.Lists.{Entry, delay_insert, delays, delta_insert, is_listed, list_at, with_list}
use Rattle.queue_table.specs.Table.{lists}
use Rattle.uses_queues.proofs.Delays.{HasDelays, inserted, runs}
use Rattle.uses_queues.proofs.timers.Timers.add.Goals as goal

-- the queue with the timer
after : (c : goal.After-insert_delta)
    → HasDelays (lists c.insert_delta.new.self) (delay_insert c.args.timer c.args.ticks (delays (list_at (lists c.self.inside.table) 0)))
after c =
    let low : pos 1 ≤ℤ c.args.ticks = grind (arith, ints) in
    let fits : SFits w32 c.args.ticks = search rules in
    let same = to_z-of_z w32 c.args.ticks fits in
    let is = c.insert_delta.ensures.lists
    ∙ ap (λ (d : ℤ). with_list (lists c.self.inside.table) 0 (delta_insert c.args.timer d (list_at (lists c.self.inside.table) 0))) same in
    inserted (lists c.self.inside.table) (lists c.insert_delta.new.self) c.args.timer c.args.ticks (queues_of c.self.inside.table) c.self.invariant low
    (omega (arith, ints, c.ranges.ticks.sfits)) is

pub invariant_of-self : goal.invariant_of-self
invariant_of-self c = (after c).delta

pub returns-clause-added : goal.returns-clause-added
returns-clause-added c = (after c).delays_are ∙ ap (λ (l : List Entry). delay_insert c.args.timer c.args.ticks l) c.self.view_is

pub returns-then-is_some-clause-accepts : goal.returns-then-is_some-clause-accepts
returns-then-is_some-clause-accepts c below low free =
    let ls = lists c.self.inside.table in
    let on : is_listed c.args.timer (delays (list_at ls 0)) ≡ true = runs ls c.args.timer c.place_of.result (queues_of c.self.inside.table)
    c.place_of.ensures.place (sym c.is_some.ensures ∙ c.if-is_some.true) in
    let off : is_listed c.args.timer (delays (list_at ls 0)) ≡ false = ap (λ (l : List Entry). is_listed c.args.timer l) c.self.view_is ∙ free in
    absurd (true≢false (sym on ∙ off))
