use Rattle.std.proofs.Common.{arith, ◌≡◌, ◌∙◌, ap, sym, true, is_some}
use Rattle.queue_table.proofs.Laws.{queues_of}
use Rattle.queue_table.specs.Lists.{first_key_of, list_at}
use Rattle.queue_table.specs.Table.{lists}
use Rattle.lists_c.specs.Held.{is_due, ticked}
use Rattle.lists_c.specs.Views.{seen_in}
use Rattle.lists_c.proofs.Holding.{Became, later_first, lowered, none_ticked}
use Rattle.lists_c.proofs.lists.HeldLists.tick.Goals as goal

-- there is a first sleeper
some : (c : goal.After-lower_first) → is_some (first_key_of (list_at (lists c.self.inside.table) 2)) ≡ true
some c = ap is_some (sym c.first_key.ensures.key) ∙ sym c.is_some.ensures ∙ c.if-is_some.true

-- the lists after the tick
after : (c : goal.After-lower_first) → Became (lists c.lower_first.new.self) (ticked (seen_in (lists c.self.inside.table)))
after c =
    lowered (lists c.self.inside.table) (lists c.lower_first.new.self) (queues_of c.self.inside.table) c.self.invariant
    (ap is_due c.self.view_is ∙ c.requires.later) (some c) c.lower_first.ensures.lists

pub lower_first-requires : goal.lower_first-requires
lower_first-requires c = (
  omega arith,
  (
    omega arith,
    later_first (lists c.self.inside.table) (ap is_due c.self.view_is ∙ c.requires.later)
        (ap is_some (sym c.first_key.ensures.key) ∙ sym c.is_some.ensures ∙ c.if-is_some.true),
  ),
)

pub invariant_of-self : goal.invariant_of-self
invariant_of-self c = (after c).kept

pub returns-then-is_some : goal.returns-then-is_some
returns-then-is_some c = record { lists = (after c).seen ∙ ap ticked c.self.view_is }

pub returns-else-is_some : goal.returns-else-is_some
returns-else-is_some c = record {
  lists = sym c.self.view_is ∙ sym (none_ticked (lists c.self.inside.table) (ap is_some (sym c.first_key.ensures.key) ∙ sym c.is_some.ensures ∙ c.if-is_some.false))
      ∙ ap ticked c.self.view_is;
}
