-- What always holds of the tables says in which queue a process is that waits or sleeps.
use Rattle.std.proofs.Common.{◌≡◌, ◌∙◌, ℕ, zero, suc, ◌<◌, false, eqb, Option, Some, None, List, [], ◌∷◌, take, refl, sym, ap, arith}
use Rattle.xinu_base.specs.declared.processes.State.TheVariants.{Sleeping, Waiting, Timed}
use Rattle.queue_table.specs.declared.table.QueueTable.{QueueTable}
use Rattle.queue_table.specs.Table.{lists}
use Rattle.queue_table.specs.Lists.{Entry, delays, is_listed, list_at, place}
use Rattle.queue_table.proofs.Deltas.{is_listed-delays}
use Rattle.queue_table.proofs.Laws.{place-none}
use Rattle.xinu_model.specs.Sound.Tables.{IsInside, waits_of, waiting_places, sleeping_places}
use Rattle.process_core.specs.Tables.{ProcessTable, Beside, Mark, process_in, semaphores_of, tables_of}
use Rattle.process_core.proofs.Fitting.{may_be_in}
use Rattle.process_core.proofs.Inside.{inside_fits, sleepers_counted, times-map, uncounted}

-- a process that is in no list is in none of the first
absent_first : (n p : ℕ) (ls : List (List Entry)) (q : ℕ) → ((q : ℕ) → is_listed p (list_at ls q) ≡ false)
    → is_listed p (list_at (take n ls) q) ≡ false
absent_first zero p ls q h = refl
absent_first (suc n) p [] q h = refl
absent_first (suc n) p (l ∷ ls) zero h = h 0
absent_first (suc n) p (l ∷ ls) (suc q) h = absent_first n p ls q (λ i. h (suc i))

-- a process that is in no list waits on no semaphore
waits_nowhere : (p : ℕ) (ls : List (List Entry)) (ms : List Mark) → ((q : ℕ) → is_listed p (list_at ls q) ≡ false)
    → waits_of p (semaphores_of ls ms) ≡ 0
waits_nowhere p ls [] h = refl
waits_nowhere p [] (m ∷ ms) h = let b = waits_nowhere p [] ms h in omega (arith, b)
waits_nowhere p (l ∷ ls) (m ∷ ms) h =
    let a = times-map (λ x. eqb x p) (λ (e : Entry). e.0) l ∙ uncounted p l (h 0) in
    let b = waits_nowhere p ls ms (λ q. h (suc q)) in
    omega (arith, a, b)

-- A process that waits is in the queue of a semaphore.
pub record InSomeQueue (ls : List (List Entry)) (p : ℕ) : Type 0 where
  pub queue : ℕ
  pub at : place ls p ≡ Some queue
  pub below : queue < 128

pub waiting_placed : (t : QueueTable 64 130) (s : ProcessTable) (b : Beside) (p : ℕ) → IsInside (tables_of (lists t) s b)
    → (process_in s.processes p).state ≡ Waiting → InSomeQueue (lists t) p
unfolding tables_of
waiting_placed t s b p o is = go (place (lists t) p) refl
  where
    go : (q : Option ℕ) → place (lists t) p ≡ q → InSomeQueue (lists t) p
    go None e =
        let z = waits_nowhere p (take 128 (lists t)) b.marks (λ i. absent_first 128 p (lists t) i (place-none (lists t) p e)) in
        let w : waits_of p (semaphores_of (take 128 (lists t)) b.marks) ≡ 1 = o.waiting p ∙ ap waiting_places is in
        absurd (omega (arith, z, w))
    go (Some q) e = record { queue = q; at = e; below = may_be_in q (process_in s.processes p).state Waiting is ((inside_fits t s b o).placed p q e) }

-- a process that is in no list doesn't sleep
sleeps_nowhere : (t : QueueTable 64 130) (s : ProcessTable) (b : Beside) (p : ℕ) → IsInside (tables_of (lists t) s b)
    → place (lists t) p ≡ None → sleeping_places (process_in s.processes p).state ≡ 0
unfolding tables_of
sleeps_nowhere t s b p o e =
    let u = uncounted p (delays (list_at (lists t) 129)) (is_listed-delays p (list_at (lists t) 129) ∙ place-none (lists t) p e 129) in
    sym (o.sleeping p) ∙ sleepers_counted p b.ticks (list_at (lists t) 129) ∙ u

-- A process that sleeps is in the queue of the sleepers.
pub sleeping_placed : (t : QueueTable 64 130) (s : ProcessTable) (b : Beside) (p : ℕ) → IsInside (tables_of (lists t) s b)
    → (process_in s.processes p).state ≡ Sleeping → place (lists t) p ≡ Some 129
sleeping_placed t s b p o is = go (place (lists t) p) refl
  where
    go : (q : Option ℕ) → place (lists t) p ≡ q → place (lists t) p ≡ Some 129
    go None e = let z = sym (ap sleeping_places is) ∙ sleeps_nowhere t s b p o e in absurd (omega (arith, z))
    go (Some q) e = let m : q ≡ 129 = may_be_in q (process_in s.processes p).state Sleeping is ((inside_fits t s b o).placed p q e) in e
        ∙ ap Some m

-- and so is one that waits for a message with a time limit
pub timed_placed : (t : QueueTable 64 130) (s : ProcessTable) (b : Beside) (p : ℕ) → IsInside (tables_of (lists t) s b)
    → (process_in s.processes p).state ≡ Timed → place (lists t) p ≡ Some 129
timed_placed t s b p o is = go (place (lists t) p) refl
  where
    go : (q : Option ℕ) → place (lists t) p ≡ q → place (lists t) p ≡ Some 129
    go None e = let z = sym (ap sleeping_places is) ∙ sleeps_nowhere t s b p o e in absurd (omega (arith, z))
    go (Some q) e = let m : q ≡ 129 = may_be_in q (process_in s.processes p).state Timed is ((inside_fits t s b o).placed p q e) in e
        ∙ ap Some m
