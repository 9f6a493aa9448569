-- Where a process is in the lists of the tables after it went to a place.
use Rattle.std.proofs.Common.{◌≡◌, ◌≢◌, ℕ, zero, suc, ◌<◌, not, List, [], ◌∷◌, length, get_or, refl, ap, ◌∙◌, arith, ℤ}
use Rattle.std.specs.Prelude.{int_lt, nat_le}
use Rattle.std.proofs.Math.ListN.{length-set}
use Rattle.table_laws.specs.Moves.{place_ready, place_sleeping, place_waiting}
use Rattle.xinu_model.specs.Sound.Tables.{count_in, entries_of, waits_of}
use Rattle.xinu_model.specs.Tables.{Semaphore, no_semaphore, semaphore_without, numbers_without, waits_without, with_waiter, Place, Nowhere, InReady, InSemaphore, InSleepers, ready_in, semaphores_in, sleepers_in}
use Rattle.table_laws.proofs.Lists.Counts.{entries_insert_same, entries_insert_other, numbers_without_same, numbers_without_other, count_last_same, count_last_other, total-agree, total-map, total-zero, total-set}

-- the semaphore of a place is one of the table
abbrev pub IsInTable : Place → List Semaphore → Type 0
IsInTable (InSemaphore s) semaphores = s < length semaphores
IsInTable _ semaphores = Unit {0}

-- q waits on no semaphore once it left them
pub waits_without_same : (q : ℕ) (l : List Semaphore) → waits_of q (waits_without q l) ≡ 0
waits_without_same q l =
    total-map (λ x. count_in q x.waiters) (semaphore_without q) l
    ∙ total-zero (λ x. count_in q (numbers_without q x.waiters)) (λ x. numbers_without_same q x.waiters) l

-- the others wait as often
pub waits_without_other : (p q : ℕ) (l : List Semaphore) → p ≢ q → waits_of p (waits_without q l) ≡ waits_of p l
waits_without_other p q l h =
    total-map (λ x. count_in p x.waiters) (semaphore_without q) l
    ∙ total-agree (λ x. count_in p (numbers_without q x.waiters)) (λ x. count_in p x.waiters) (λ x. numbers_without_other p q x.waiters h) l

-- there are as many semaphores
pub length-waits_without : (q : ℕ) (l : List Semaphore) → length (waits_without q l) ≡ length l
length-waits_without q [] = refl
length-waits_without q (x ∷ xs) = ap suc (length-waits_without q xs)

-- each is the one that was, without q
pub semaphore_at_without : (q sem : ℕ) (l : List Semaphore)
    → get_or (waits_without q l) sem no_semaphore ≡ semaphore_without q (get_or l sem no_semaphore)
semaphore_at_without q sem [] = refl
semaphore_at_without q zero (x ∷ xs) = refl
semaphore_at_without q (suc sem) (x ∷ xs) = semaphore_at_without q sem xs

-- how often q is in the ready list after it went to its place
pub ready_in_same : (place : Place) (q : ℕ) (key : ℤ) (l : List (ℕ × ℤ)) → entries_of q l ≡ 0
    → entries_of q (ready_in place q key l) ≡ place_ready place
ready_in_same InReady q key l none = entries_insert_same (λ x. not (int_lt x.1 key)) q key l none
ready_in_same Nowhere q key l none = none
ready_in_same (InSemaphore s) q key l none = none
ready_in_same (InSleepers wake) q key l none = none

-- and how often another process is
pub ready_in_other : (place : Place) (p q : ℕ) (key : ℤ) (l : List (ℕ × ℤ)) → p ≢ q → entries_of p (ready_in place q key l) ≡ entries_of p l
ready_in_other InReady p q key l h = entries_insert_other (λ x. not (int_lt x.1 key)) p q key l h
ready_in_other Nowhere p q key l h = refl
ready_in_other (InSemaphore s) p q key l h = refl
ready_in_other (InSleepers wake) p q key l h = refl

-- the same of the sleepers
pub sleepers_in_same : (place : Place) (q : ℕ) (l : List (ℕ × ℕ)) → entries_of q l ≡ 0
    → entries_of q (sleepers_in place q l) ≡ place_sleeping place
sleepers_in_same (InSleepers wake) q l none = entries_insert_same (λ x. nat_le x.1 wake) q wake l none
sleepers_in_same Nowhere q l none = none
sleepers_in_same (InSemaphore s) q l none = none
sleepers_in_same InReady q l none = none

-- and how often another process is among them
pub sleepers_in_other : (place : Place) (p q : ℕ) (l : List (ℕ × ℕ)) → p ≢ q → entries_of p (sleepers_in place q l) ≡ entries_of p l
sleepers_in_other (InSleepers wake) p q l h = entries_insert_other (λ x. nat_le x.1 wake) p q wake l h
sleepers_in_other Nowhere p q l h = refl
sleepers_in_other (InSemaphore s) p q l h = refl
sleepers_in_other InReady p q l h = refl

-- the same of the waiters
pub semaphores_in_same : (place : Place) (q : ℕ) (l : List Semaphore) → IsInTable place l → waits_of q l ≡ 0
    → waits_of q (semaphores_in place q l) ≡ place_waiting place
semaphores_in_same (InSemaphore s) q l i none =
    let e = total-set (λ x. count_in q x.waiters) l s (with_waiter q (get_or l s no_semaphore)) no_semaphore i in
    let f = count_last_same q (get_or l s no_semaphore).waiters in
    omega arith
semaphores_in_same Nowhere q l i none = none
semaphores_in_same InReady q l i none = none
semaphores_in_same (InSleepers wake) q l i none = none

-- and how often another process is among them
pub semaphores_in_other : (place : Place) (p q : ℕ) (l : List Semaphore) → IsInTable place l → p ≢ q
    → waits_of p (semaphores_in place q l) ≡ waits_of p l
semaphores_in_other (InSemaphore s) p q l i h =
    let e = total-set (λ x. count_in p x.waiters) l s (with_waiter q (get_or l s no_semaphore)) no_semaphore i in
    let f = count_last_other p q (get_or l s no_semaphore).waiters h in
    omega arith
semaphores_in_other Nowhere p q l i h = refl
semaphores_in_other InReady p q l i h = refl
semaphores_in_other (InSleepers wake) p q l i h = refl

-- there are as many semaphores
pub length-semaphores_in : (place : Place) (q : ℕ) (l : List Semaphore) → length (semaphores_in place q l) ≡ length l
length-semaphores_in (InSemaphore s) q l = length-set l s _
length-semaphores_in Nowhere q l = refl
length-semaphores_in InReady q l = refl
length-semaphores_in (InSleepers wake) q l = refl
