use Rattle.std.proofs.Common.{◌≡◌, ◌≢◌, ◌∙◌, ◌∷◌, ℕ, List, Option, Some, None, IfNone, IfSome, pos, ap, sym, subst, arith}
use Rattle.std.proofs.lemmas.Int.{ints}
use Rattle.queue_table.proofs.Laws.{queues_of}
use Rattle.queue_table.specs.Lists.{Entry, IsDelta, KeysAtLeast, delays, first_key_of, first_process, list_at}
use Rattle.queue_table.specs.Table.{lists}
use Rattle.uses_queues.proofs.Delays.{first_there, later, taken}
use Rattle.uses_queues.proofs.timers.Timers.next_due.Goals as goal

-- the first is due
due : (c : goal.After-dequeue) → first_key_of (list_at (lists c.self.inside.table) 0) ≡ Some (pos 0)
due c = let is : c.in-Some.key ≡ pos 0 = grind (arith, ints) in sym c.in-Some.ensures.key ∙ ap Some is

-- and who it is
first : (c : goal.After-dequeue) → (p : ℕ) × (first_process (list_at (lists c.self.inside.table) 0) ≡ Some p)
first c = first_there (list_at (lists c.self.inside.table) 0) (pos 0) (due c)

-- the queue without it
after : (c : goal.After-dequeue) → IsDelta (list_at (lists c.dequeue.new.self) 0)
    × (delays (list_at (lists c.self.inside.table) 0) ≡ ((first c).0, pos 0) ∷ delays (list_at (lists c.dequeue.new.self) 0))
after c = taken (lists c.self.inside.table) (lists c.dequeue.new.self) (first c).0 (queues_of c.self.inside.table) c.self.invariant (due c) (first c).1
    c.dequeue.ensures.lists

pub invariant_of-self : goal.invariant_of-self
invariant_of-self c = (after c).0

pub returns-clause-due : goal.returns-clause-due
returns-clause-due c =
    let left = delays (list_at (lists c.dequeue.new.self) 0) in
    subst (λ (o : Option ℕ). IfSome o (λ p. c.args.self.now ≡ (p, pos 0) ∷ left)) (sym (c.dequeue.ensures.first ∙ (first c).1))
    (sym c.self.view_is ∙ (after c).1)

pub returns-clause-stays : goal.returns-clause-stays
returns-clause-stays c =
    let left = delays (list_at (lists c.dequeue.new.self) 0) in
    subst (λ (o : Option ℕ). IfNone o (left ≡ c.args.self.now)) (sym (c.dequeue.ensures.first ∙ (first c).1)) tt

pub returns-in_default-clause-later : goal.returns-in_default-clause-later
returns-in_default-clause-later c =
    let l = list_at (lists c.self.inside.table) 0 in
    let some : first_key_of l ≢ Some (pos 0) = λ z. (let both : None ≡ Some (pos 0) = c.in_default.ensures.key ∙ z in absurd (cc)) in
    subst (λ (l : List Entry). KeysAtLeast (pos 1) l) c.self.view_is (later l c.self.invariant some)

pub returns-then-key-ne0-clause-later : goal.returns-then-key-ne0-clause-later
returns-then-key-ne0-clause-later c =
    let l = list_at (lists c.self.inside.table) 0 in
    let some : first_key_of l ≢ Some (pos 0) = λ z. (
    let both : Some c.in-Some.key ≡ Some (pos 0) = c.in-Some.ensures.key ∙ z in
    let same : c.in-Some.key ≡ pos 0 = cc in
    grind (arith, ints)) in
    subst (λ (l : List Entry). KeysAtLeast (pos 1) l) c.self.view_is (later l c.self.invariant some)
