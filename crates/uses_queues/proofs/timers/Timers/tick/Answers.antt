use Rattle.std.proofs.Common.{◌≡◌, ◌≢◌, ◌∙◌, List, Some, pos, ap, sym, subst, arith}
use Rattle.std.proofs.lemmas.Int.{ints}
use Rattle.queue_table.proofs.Laws.{queues_of}
use Rattle.queue_table.specs.Lists.{Entry, delays, first_key_of, list_at, sooner}
use Rattle.queue_table.specs.Table.{lists}
use Rattle.uses_queues.proofs.Delays.{HasDelays, first_least, lowered, none_sooner}
use Rattle.uses_queues.proofs.timers.Timers.tick.Goals as goal

-- the queue after the tick
after : (c : goal.After-lower_first) → HasDelays (lists c.lower_first.new.self) (sooner (delays (list_at (lists c.self.inside.table) 0)))
after c =
    let some : c.in-Some.key ≢ pos 0 = λ z. grind (arith, ints) in
    lowered (lists c.self.inside.table) (lists c.lower_first.new.self) c.in-Some.key (queues_of c.self.inside.table) c.self.invariant
    (sym c.in-Some.ensures.key) some c.lower_first.ensures.lists

pub invariant_of-self : goal.invariant_of-self
invariant_of-self c = (after c).delta

pub returns-in_default-clause-passed : goal.returns-in_default-clause-passed
returns-in_default-clause-passed c =
    subst (λ (l : List Entry). l ≡ sooner l) c.self.view_is (none_sooner (list_at (lists c.self.inside.table) 0) (sym c.in_default.ensures.key))

pub returns-then-key-eq0-clause-waits : goal.returns-then-key-eq0-clause-waits
returns-then-key-eq0-clause-waits c e =
    let is : c.in-Some.key ≡ pos 0 = grind (arith, ints) in
    subst (λ (l : List Entry). first_key_of l ≡ Some (pos 0)) c.self.view_is
    (first_least (list_at (lists c.self.inside.table) 0) (pos 0) (sym c.in-Some.ensures.key ∙ ap Some is) c.self.invariant).1

pub returns-clause-passed : goal.returns-clause-passed
returns-clause-passed c = (after c).delays_are ∙ ap sooner c.self.view_is
