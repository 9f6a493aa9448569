-- Who waits on a semaphore after a process moved.
use Rattle.std.proofs.Common.{◌≡◌, ◌≢◌, ⊎_elim, ℕ, zero, suc, ◌<◌, ◌==◌, List, [], ◌∷◌, ◌++◌, get_or, set, Option, refl, sym, subst, ap, arith}
use Rattle.std.specs.List.{AllByRecursion}
use Rattle.std.proofs.lemmas.Bool.{cond_both, eqb-false}
use Rattle.xinu_base.specs.declared.processes.Process.{Process}
use Rattle.xinu_model.specs.Semaphores.Counts.{with_semaphore}
use Rattle.xinu_model.specs.Sound.Tables.{count_in, waiting_places, IsInside}
use Rattle.xinu_model.specs.Tables.{Semaphore, no_semaphore, Tables, semaphore_at, numbers_without, waits_without, with_waiter, Place, Nowhere, InReady, InSemaphore, InSleepers, move_to, state_at}
use Rattle.table_laws.proofs.Lists.Counts.{count_behind, first_is_counted, get_or-le-total}
use Rattle.table_laws.proofs.Tables.Unblock.{IsOneOf}
use Rattle.table_laws.proofs.Tables.Places.{semaphore_at_without}

-- what is at a place after a write is what was written there, or what was there
set_either : {A : Type 0} (P : A → Type 0) (l : List A) (i r : ℕ) (x d : A) → (i ≡ r → P x) → P (get_or l r d) → P (get_or (set l i x) r d)
set_either P [] i r x d new old = old
set_either P (y ∷ ys) zero zero x d new old = new refl
set_either P (y ∷ ys) zero (suc r) x d new old = old
set_either P (y ∷ ys) (suc i) zero x d new old = old
set_either P (y ∷ ys) (suc i) (suc r) x d new old = set_either P ys i r x d (λ e. new (ap suc e)) old

-- Those who wait on a semaphore after one was given other waiters, or none.
pub waiters_given : (P : List ℕ → Type 0) (t : Tables) (sem r : ℕ) (x : Semaphore) → (sem ≡ r → P x.waiters) → P (semaphore_at t r).waiters
    → P (semaphore_at (with_semaphore sem x t) r).waiters
waiters_given P t sem r x new old = set_either (λ (y : Semaphore). P y.waiters) t.semaphores sem r x no_semaphore new old

-- After q left its place it isn't among them.
pub waiters_left : (P : List ℕ → Type 0) (q r : ℕ) (l : List Semaphore) → P (numbers_without q (get_or l r no_semaphore).waiters)
    → P (get_or (waits_without q l) r no_semaphore).waiters
waiters_left P q r l h = subst (λ (y : Semaphore). P y.waiters) (sym (semaphore_at_without q r l)) h

-- After q moved it isn't among them, or it is the last.
pub waiters_moved : (P : List ℕ → Type 0) (t : Tables) (q r : ℕ) (x : Process) (m : Option ℕ) (place : Place)
    → P (numbers_without q (semaphore_at t r).waiters) → P (numbers_without q (semaphore_at t r).waiters ++ q ∷ [])
    → P (semaphore_at (move_to q x m place t) r).waiters
waiters_moved P t q r x m Nowhere left came = waiters_left P q r t.semaphores left
waiters_moved P t q r x m InReady left came = waiters_left P q r t.semaphores left
waiters_moved P t q r x m (InSleepers wake) left came = waiters_left P q r t.semaphores left
waiters_moved P t q r x m (InSemaphore sem) left came =
    let l = waits_without q t.semaphores in
    set_either (λ (y : Semaphore). P y.waiters) l sem r (with_waiter q (get_or l sem no_semaphore)) no_semaphore
    (λ e. subst (λ k. P ((get_or l k no_semaphore).waiters ++ q ∷ [])) (sym e) (waiters_left (λ ws. P (ws ++ q ∷ [])) q r t.semaphores came))
    (waiters_left P q r t.semaphores left)

-- one of a list is counted in it
one_counted : (p : ℕ) (l : List ℕ) → IsOneOf p l → 0 < count_in p l
one_counted p [] i = absurd i
one_counted p (x ∷ xs) i =
    ⊎_elim (λ (e : p ≡ x). subst (λ q. 0 < count_in q (x ∷ xs)) (sym e) (first_is_counted x xs))
    (λ (j : IsOneOf p xs). count_behind p x xs (one_counted p xs j)) i

-- If p isn't counted in a list it is none of its elements.
pub none_counted_of : (p : ℕ) (l : List ℕ) → count_in p l ≡ 0 → IsOneOf p l → ⊥
none_counted_of p l e i = let n = one_counted p l i in absurd (omega arith)

-- If p isn't counted in a list none of its elements is p.
pub all_others : (p : ℕ) (l : List ℕ) → count_in p l ≡ 0 → AllByRecursion (λ q. p ≢ q) l
all_others p [] = λ e. tt
all_others p (q ∷ qs) =
    cond_both (q == p) (suc (count_in p qs)) (count_in p qs) (λ n. n ≡ 0 → AllByRecursion (λ r. p ≢ r) (q ∷ qs))
    (λ b e. absurd (omega arith)) (λ b e. ((λ f. eqb-false q p b (sym f)), all_others p qs e))

-- Who has no place among waiters waits on no semaphore.
pub not_waiting : (t : Tables) (p sem : ℕ) → IsInside t → waiting_places (state_at t p) ≡ 0 → count_in p (semaphore_at t sem).waiters ≡ 0
not_waiting t p sem o idle =
    let few = get_or-le-total (λ (x : Semaphore). count_in p x.waiters) t.semaphores sem no_semaphore refl in
    let all = o.waiting p in
    omega arith
