-- A port needs two semaphores: the first is taken back if there is no second.
use Rattle.std.proofs.Common.{◌≡◌, ◌∙◌, ℕ, zero, suc, ◌+◌, ◌-◌, Bool, true, not, List, [], ◌∷◌, set, get_or, Option, Some, None, ℤ, refl, sym, ap, arith}
use Rattle.std.specs.List.{find}
use Rattle.std.specs.Option.{option_or}
use Rattle.std.specs.Prelude.{is_some, min}
use Rattle.std.proofs.lemmas.List.Folds.{find-append}
use Rattle.reference_state.specs.Answers.{IsStart}
use Rattle.xinu_base.specs.Constants.{SYSERR}
use Rattle.xinu_base.specs.declared.semaphores.Owner.{Owner}
use Rattle.xinu_base.specs.declared.semaphores.Owner.TheVariants as owner
use Rattle.xinu_model.specs.Machine.{CallState, returns, start, with_tables}
use Rattle.xinu_model.specs.Ports.Calls.{free_port, made_port, started_port}
use Rattle.xinu_model.specs.Searches.{numbers_from, search}
use Rattle.xinu_model.specs.Semaphores.Counts.{free_semaphore, make_semaphore, with_semaphore}
use Rattle.xinu_model.specs.Sound.Tables.{IsSoundTables}
use Rattle.xinu_model.specs.Tables.{no_semaphore, Semaphore, semaphore_at, Tables}
use Rattle.table_laws.proofs.Lists.Searches.{search_passes}

-- what was there is there again
set_back : (l : List Semaphore) (i : ℕ) (x : Semaphore) → get_or l i no_semaphore ≡ no_semaphore → set (set l i x) i no_semaphore ≡ l
set_back [] zero x e = refl
set_back [] (suc i) x e = refl
set_back (y ∷ l) zero x e = ap (λ z. z ∷ l) (sym e)
set_back (y ∷ l) (suc i) x e = ap (λ z. y ∷ z) (set_back l i x e)

nobody : (o : Option Owner) → not (is_some o) ≡ true → o ≡ None
nobody None e = refl
nobody (Some x) e = absurd (cc)

-- a number that was found is unused
found_unused : (t : Tables) (sem : ℕ) → IsSoundTables t → Some sem ≡ free_semaphore t → semaphore_at t sem ≡ no_semaphore
found_unused t sem k e = k.inside.unused sem
    (nobody (semaphore_at t sem).owner (search_passes (λ x. not (is_some (semaphore_at t x).owner)) 128 (t.last_semaphore + 1) sem (sym e)))

-- So the tables are as they were if a semaphore that was made is taken back.
pub taken_back : (t : Tables) (sem n : ℕ) (by : Owner) → IsSoundTables t → Some sem ≡ free_semaphore t
    → record (with_semaphore sem no_semaphore (make_semaphore sem by n t)) { last_semaphore = t.last_semaphore } ≡ t
taken_back t sem n by k e = ap (λ (l : List Semaphore). record t { semaphores = l })
    (set_back t.semaphores sem (record { owner = Some by; tokens = n; waiters = [] }) (found_unused t sem k e))

-- a number found from the first on is what the search finds
pub search_ahead : (test : ℕ → Bool) (size first q : ℕ) → Some q ≡ find test (numbers_from first (size - first))
    → Some q ≡ search test size first
search_ahead test size first q h =
    ap (λ o. option_or o (find test (numbers_from 0 (min first size)))) h
    ∙ sym (find-append test (numbers_from first (size - first)) (numbers_from 0 (min first size)))

-- if none is found from the first on, the search finds what it finds from 0 on
pub search_round : (test : ℕ → Bool) (size first : ℕ) (o : Option ℕ) → None ≡ find test (numbers_from first (size - first))
    → o ≡ find test (numbers_from 0 (min first size - 0)) → o ≡ search test size first
search_round test size first o h e =
    let z : min first size - 0 ≡ min first size = omega arith in
    e ∙ ap (λ k. find test (numbers_from 0 k)) z ∙ ap (λ o. option_or o (find test (numbers_from 0 (min first size)))) h
    ∙ sym (find-append test (numbers_from first (size - first)) (numbers_from 0 (min first size)))

-- the state inside an event in which nothing was done yet
starts : (d : CallState) → IsStart d → d ≡ start d.state
starts d k = ap (λ (l : List (ℕ × ℤ)). record d { released = l }) k.released ∙ ap (λ b. record { state = d.state; released = []; owes_resched = b }) k.owes

-- If there is no second semaphore nothing is done.
pub no_second : (d u : CallState) (q send n : ℕ) → IsStart d → IsSoundTables d.state.tables → Some q ≡ free_port d.state
    → Some send ≡ free_semaphore d.state.tables → None ≡ free_semaphore (make_semaphore send (owner.Port q) n d.state.tables)
    → u ≡ with_tables (record (with_semaphore send no_semaphore (make_semaphore send (owner.Port q) n d.state.tables)) { last_semaphore = d.state.tables.last_semaphore }) d
    → returns u SYSERR ≡ started_port (free_port d.state) (free_semaphore d.state.tables) n d.state
no_second d u q send n k sound found one two back =
    ap (λ (x : CallState). returns x SYSERR) (back ∙ ap (λ (t : Tables). with_tables t d) (taken_back d.state.tables send n (owner.Port q) sound one) ∙ starts d k)
    ∙ ap (λ o. made_port o q n send d.state) two
    ∙ ap (λ o. started_port (Some q) o n d.state) one
    ∙ ap (λ o. started_port o (free_semaphore d.state.tables) n d.state) found
