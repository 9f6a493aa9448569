-- A walk along the waiters of a semaphore, and along the sleepers.
use Rattle.std.proofs.Common.{◌≡◌, ◌∙◌, ℕ, zero, suc, ◌<◌, ◌≤◌, Bool, true, false, cond, List, [], ◌∷◌, get_or, Option, Some, None, refl, sym, ap, nat_eq, inl, inr, arith}
use Rattle.std.specs.Prelude.{IfSome}
use Rattle.std.proofs.lemmas.Bool.{cases_eq, eq-eqb, false≢true}
use Rattle.process_core.proofs.Inside.{times-map, uncounted}
use Rattle.process_core.specs.Tables.{numbers}
use Rattle.queue_table.proofs.Laws.{disjoint, place-none}
use Rattle.queue_table.specs.Lists.{after_in, Entry, first_process, is_listed, list_at, place}
use Rattle.queue_table.specs.Table.{lists}
use Rattle.queue_table.specs.declared.table.QueueTable.{QueueTable}
use Rattle.xinu_model.specs.Sound.Tables.{count_in, entries_of, IsInside, sleeping_places, total}
use Rattle.xinu_base.specs.declared.processes.State.{State}
use Rattle.xinu_base.specs.declared.processes.State.TheVariants.{Free, Current, Ready, Receiving, Sleeping, Suspended, Waiting, Timed}
use Rattle.xinu_model.specs.Tables.{no_semaphore, Semaphore, semaphore_at, state_at, Tables}
use Rattle.kernel_tables.specs.Walks.{entries_from, numbers_from}
use Rattle.kernel_tables.proofs.Walking.{after_counted, from_first, from_next, Once}
use Rattle.table_laws.proofs.Tables.Signals.{at_most_one}

-- a walk along the numbers of a list is one along the list
pub numbers_walk : (o : Option ℕ) (l : List Entry) → numbers_from o (numbers l) ≡ numbers (entries_from o l)
numbers_walk None l = refl
numbers_walk (Some p) [] = refl
numbers_walk (Some p) (e ∷ l) = go (numbers_walk (Some p) l) (nat_eq p e.0) refl
  where
    go : numbers_from (Some p) (numbers l) ≡ numbers (entries_from (Some p) l) → (b : Bool) → nat_eq p e.0 ≡ b
        → numbers_from (Some p) (numbers (e ∷ l)) ≡ numbers (entries_from (Some p) (e ∷ l))
    go later true t = rw t refl
    go later false t = rw t later

-- it begins with all numbers
pub numbers_from_first : (l : List Entry) → numbers_from (first_process l) (numbers l) ≡ numbers l
numbers_from_first l = numbers_walk (first_process l) l ∙ ap numbers (from_first l)

-- and goes on from one to the next
pub numbers_from_next : (p : ℕ) (l : List Entry) → Once l → is_listed p l ≡ true → numbers_from (Some p) (numbers l) ≡ p ∷ numbers_from (after_in p l) (numbers l)
numbers_from_next p l once h =
    numbers_walk (Some p) l ∙ ap numbers (from_next p l once h) ∙ ap (λ r. p ∷ r) (sym (numbers_walk (after_in p l) l))

-- how often a process is among numbers and in the list
pub counted_numbers : (p : ℕ) (l : List Entry) → count_in p (numbers l) ≡ entries_of p l
counted_numbers p l = times-map (λ (x : ℕ). nat_eq x p) (λ (e : Entry). e.0) l

-- a process that is counted is listed
pub counted_listed : (p : ℕ) (l : List Entry) → 0 < entries_of p l → is_listed p l ≡ true
counted_listed p l some = go (is_listed p l) refl
  where
    go : (b : Bool) → is_listed p l ≡ b → is_listed p l ≡ true
    go true e = e
    go false e = (let none = uncounted p l e in absurd (omega arith))

-- and its place is the queue of that list
pub listed_placed : (t : QueueTable 64 130) (p q : ℕ) → is_listed p (list_at (lists t) q) ≡ true → place (lists t) p ≡ Some q
listed_placed t p q h = go (place (lists t) p) refl
  where
    go : (o : Option ℕ) → place (lists t) p ≡ o → place (lists t) p ≡ Some q
    go None e = absurd (false≢true (sym (place-none (lists t) p e q) ∙ h))
    go (Some r) e = elim (cases_eq r q) [
      | inl same ↦ e ∙ ap Some same
      | inr other ↦ absurd (false≢true (sym (disjoint t p r q e other) ∙ h))
    ]

-- one number is at most the sum
one_of_sum : (f : Semaphore → ℕ) (l : List Semaphore) (i : ℕ) → f no_semaphore ≡ 0 → f (get_or l i no_semaphore) ≤ total f l
one_of_sum f [] i none = omega arith
one_of_sum f (x ∷ l) zero none = omega arith
one_of_sum f (x ∷ l) (suc i) none = let h = one_of_sum f l i none in omega arith

-- and so has who sleeps
pub sleeping_least : (s : State) → sleeping_places s ≤ 1
sleeping_least Waiting = omega arith
sleeping_least Ready = omega arith
sleeping_least Free = omega arith
sleeping_least Current = omega arith
sleeping_least Receiving = omega arith
sleeping_least Sleeping = omega arith
sleeping_least Suspended = omega arith
sleeping_least Timed = omega arith

-- each process stands among the waiters of a semaphore at most once
pub waiters_once : (t : Tables) (sem : ℕ) (l : List Entry) → IsInside t → (semaphore_at t sem).waiters ≡ numbers l → Once l
waiters_once t sem l k e r =
    let a = ap (count_in r) e ∙ counted_numbers r l in
    let b = one_of_sum (λ x. count_in r x.waiters) t.semaphores sem refl in
    let c = k.waiting r in
    let d = at_most_one (state_at t r) in omega arith

-- whoever is after another waits as well
pub waiter_counted : (p : ℕ) (l : List Entry) → IfSome (after_in p l) (λ q. 0 < count_in q (numbers l))
waiter_counted p l = go (after_in p l) refl
  where
    go : (o : Option ℕ) → after_in p l ≡ o → IfSome o (λ q. 0 < count_in q (numbers l))
    go None e = tt
    go (Some q) e = (let c = counted_numbers q l in let some = after_counted p l q e in omega arith)

-- so does the first one
pub first_waits : (l : List Entry) → IfSome (first_process l) (λ q. 0 < count_in q (numbers l))
first_waits [] = tt
first_waits (e ∷ l) = let c = ap (λ b. cond b (suc (count_in e.0 (numbers l))) (count_in e.0 (numbers l))) (eq-eqb e.0 e.0 refl) in omega arith
