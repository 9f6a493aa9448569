use Rattle.std.proofs.Common.{◌≡◌, ◌≢◌, ◌∙◌, Some, ℕ, Option, List, is_some, ap, refl, sym, subst, arith}
use Rattle.std.specs.Prelude.{IsSome}
use Rattle.std.proofs.lemmas.Bool.{false≢true}
use Rattle.queue_table.proofs.Laws.{list_of-placed, queues_of}
use Rattle.queue_table.specs.Lists.{Entry, IsDelta, place}
use Rattle.queue_table.specs.Table.{lists}
use Rattle.lists_c.specs.Held.{is_held, without_process}
use Rattle.lists_c.specs.Views.{seen_in}
use Rattle.lists_c.proofs.Holding.{Became, other_removed, placed_is_held, sleeper_removed}
use Rattle.lists_c.proofs.lists.HeldLists.remove.Goals as goal

pub unreachable-requires : goal.unreachable-requires
unreachable-requires c =
    let held = placed_is_held (lists c.self.inside.table) c.args.p c.place_of.result (queues_of c.self.inside.table) c.place_of.ensures.place
    ∙ ap (is_held c.args.p) c.self.view_is ∙ c.requires.held in
    absurd (false≢true (sym (ap (λ (o : Option ℕ). is_some o) c.in_default.is) ∙ held))

-- its place is that of the sleepers
sleeps : (ls : List (List Entry)) (p q : ℕ) (o : Option ℕ) → o ≡ Some q → o ≡ place ls p → q ≡ 2 → place ls p ≡ Some 2
sleeps ls p q o is at two = sym at ∙ is ∙ ap Some two

pub remove_delta-requires : goal.remove_delta-requires
remove_delta-requires c =
    let two : c.in-Some.q ≡ 2 = grind (arith) in
    let at = sleeps (lists c.self.inside.table) c.args.p c.in-Some.q c.place_of.result c.in-Some.is c.place_of.ensures.place two in (
      omega arith,
      (
        c.requires.p_in,
        (
          subst (λ (o : Option ℕ). IsSome o) (sym at) refl,
          subst (λ (l : List Entry). IsDelta l) (sym (list_of-placed (lists c.self.inside.table) c.args.p 2 at)) c.self.invariant.sleepers,
        ),
      ),
    )

-- the lists once a sleeper is taken out
without_sleeper : (c : goal.After-remove_delta) → Became (lists c.remove_delta.new.self) (without_process c.args.p (seen_in (lists c.self.inside.table)))
without_sleeper c =
    let two : c.in-Some.q ≡ 2 = grind (arith) in
    sleeper_removed c.self.inside.table c.remove_delta.new.self c.args.p c.self.invariant
    (sleeps (lists c.self.inside.table) c.args.p c.in-Some.q c.place_of.result c.in-Some.is c.place_of.ensures.place two) c.remove_delta.ensures.lists

-- the lists once another process is
without_other : (c : goal.After-remove) → Became (lists c.remove.new.self) (without_process c.args.p (seen_in (lists c.self.inside.table)))
without_other c =
    let other : c.in-Some.q ≢ 2 = λ z. grind (arith) in
    other_removed c.self.inside.table c.remove.new.self c.args.p c.in-Some.q c.self.invariant (sym c.place_of.ensures.place ∙ c.in-Some.is) other
    c.remove.ensures.lists

pub invariant_of-self : goal.invariant_of-self
invariant_of-self c = (without_sleeper c).kept

pub invariant_of-self-else-q-eq2 : goal.invariant_of-self-else-q-eq2
invariant_of-self-else-q-eq2 c = (without_other c).kept

pub returns-then-q-eq2 : goal.returns-then-q-eq2
returns-then-q-eq2 c = record { lists = (without_sleeper c).seen ∙ ap (without_process c.args.p) c.self.view_is }

pub returns-else-q-eq2 : goal.returns-else-q-eq2
returns-else-q-eq2 c = record { lists = (without_other c).seen ∙ ap (without_process c.args.p) c.self.view_is }
