-- What is read off the lists once a process is taken out of them.
use Rattle.std.proofs.Common.{◌≡◌, ◌∙◌, ℕ, Bool, true, false, not, eqb, cond, List, [], ◌∷◌, map, refl, ap, arith}
use Rattle.std.proofs.lemmas.Bool.Decides.{nat_tests}
use Rattle.queue_table.specs.Lists.{Entry, without}
use Rattle.xinu_model.specs.Tables.{numbers_without, entries_without, waits_without}
use Rattle.process_core.specs.Tables.{Mark, numbers, semaphore_of, semaphores_of}

-- the two orders of a test
pub swapped : (p q : ℕ) → not (eqb p q) ≡ not (eqb q p)
swapped p q = grind (arith, nat_tests)

-- a list without p, by the lists' word and by the machine's
pub without_is : (p : ℕ) (l : List Entry) → without p l ≡ entries_without p l
without_is p [] = refl
without_is p (e ∷ l) = ap (λ b. cond b (e ∷ without p l) (without p l)) (swapped p e.0)
    ∙ ap (λ m. cond (not (eqb e.0 p)) (e ∷ m) m) (without_is p l)

-- one process more
numbers_step : (a b : Bool) (e : Entry) (l : List Entry) (ps : List ℕ) → a ≡ b → numbers l ≡ ps
    → numbers (cond a (e ∷ l) l) ≡ cond b (e.0 ∷ ps) ps
numbers_step true true e l ps h i = ap (λ m. e.0 ∷ m) i
numbers_step false false e l ps h i = i
numbers_step true false e l ps h i = absurd (cc)
numbers_step false true e l ps h i = absurd (cc)

-- the processes of a list without p
pub numbers-without : (p : ℕ) (l : List Entry) → numbers (without p l) ≡ numbers_without p (numbers l)
numbers-without p [] = refl
numbers-without p (e ∷ l) = numbers_step (not (eqb p e.0)) (not (eqb e.0 p)) e (without p l) (numbers_without p (numbers l)) (swapped p e.0) (numbers-without p l)

-- whoever is taken out of all lists waits on no semaphore
pub semaphores-without : (p : ℕ) (ls : List (List Entry)) (ms : List Mark)
    → semaphores_of (map (without p) ls) ms ≡ waits_without p (semaphores_of ls ms)
semaphores-without p ls [] = refl
semaphores-without p [] (m ∷ ms) = ap (λ l. semaphore_of [] m ∷ l) (semaphores-without p [] ms)
semaphores-without p (l ∷ ls) (m ∷ ms) =
    ap (λ w. record { owner = m.owner; tokens = m.tokens; waiters = w } ∷ semaphores_of (map (without p) ls) ms) (numbers-without p l)
    ∙ ap (λ x. record { owner = m.owner; tokens = m.tokens; waiters = numbers_without p (numbers l) } ∷ x) (semaphores-without p ls ms)
