use mir.Val.{SFits}
use Rattle.std.proofs.Common.{rules, w32, ◌∙◌, ℤ, pos, ◌≤ℤ◌, ap, sym, subst, arith}
use Rattle.std.proofs.lemmas.Int.{ints, to_z-of_z}
use Rattle.queue_table.proofs.Laws.{IsDelta-insert, delays-insert, queues_of}
use Rattle.queue_table.specs.Lists.{delay_insert, delays, delta_insert, list_at, with_list}
use Rattle.queue_table.specs.Table.{lists}
use Rattle.lists_c.specs.Held.{is_held, with_sleeper}
use Rattle.lists_c.proofs.Holding.{Became, nowhere, sleepers_put}
use Rattle.lists_c.specs.Views.{seen_in}
use Rattle.lists_c.proofs.lists.HeldLists.insert_delay.Goals as goal

pub insert_delta-requires : goal.insert_delta-requires
insert_delta-requires c =
    let fits : SFits w32 c.args.ticks = search rules in
    (omega arith, (c.requires.p_in, (omega arith, (nowhere (lists c.self.inside.table) c.args.p (queues_of c.self.inside.table) (ap (is_held c.args.p) c.self.view_is ∙ c.requires.absent), (c.self.invariant.sleepers, subst (λ (z : ℤ). pos 1 ≤ℤ z) (sym (to_z-of_z w32 c.args.ticks fits)) c.requires.later)))))

-- the lists with the sleeper
after : (c : goal.After-insert_delta) → Became (lists c.insert_delta.new.self) (with_sleeper c.args.p c.args.ticks (seen_in (lists c.self.inside.table)))
after c =
    let l = list_at (lists c.self.inside.table) 2 in
    let low = c.requires.later.le in
    let fits : SFits w32 c.args.ticks = search rules in
    let is = c.insert_delta.ensures.lists ∙ ap (λ (d : ℤ). with_list (lists c.self.inside.table) 2 (delta_insert c.args.p d l)) (to_z-of_z w32 c.args.ticks fits) in
    sleepers_put (lists c.self.inside.table) (lists c.insert_delta.new.self) (delta_insert c.args.p c.args.ticks l) (delay_insert c.args.p c.args.ticks (delays l))
    (queues_of c.self.inside.table) c.self.invariant is
    (IsDelta-insert l c.args.p c.args.ticks c.self.invariant.sleepers (omega (arith, ints, low)) (omega (arith, ints, c.ranges.ticks.sfits)))
    (delays-insert c.args.p c.args.ticks l)

pub invariant_of-self : goal.invariant_of-self
invariant_of-self c = (after c).kept

pub returns : goal.returns
returns c = record { lists = (after c).seen ∙ ap (with_sleeper c.args.p c.args.ticks) c.self.view_is }
