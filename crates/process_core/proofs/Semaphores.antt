-- The semaphores as they are read off the lists and the marks.
use Rattle.std.proofs.Common.{◌≡◌, ℕ, zero, suc, ◌<◌, ◌≤◌, List, [], ◌∷◌, ◌++◌, length, set, get_or, take, refl, ap, arith}
use Rattle.queue_table.specs.Lists.{Entry, list_at}
use Rattle.xinu_model.specs.Tables.{no_semaphore}
use Rattle.process_core.specs.Tables.{Mark, semaphore_of, semaphores_of, numbers}

-- the mark of a semaphore that isn't in use
abbrev pub no_mark : Mark
no_mark = record { owner = no_semaphore.owner; tokens = 0 }

-- the first lists stay if a list after them changes
pub take-set_past : {A : Type 0} (n q : ℕ) (xs : List A) (x : A) → n ≤ q → take n (set xs q x) ≡ take n xs
take-set_past zero q xs x h = refl
take-set_past (suc n) q [] x h = refl
take-set_past (suc n) zero (y ∷ xs) x h = absurd (omega arith)
take-set_past (suc n) (suc q) (y ∷ xs) x h = ap (λ l. y ∷ l) (take-set_past n q xs x (omega arith))

-- a change of one of the first lists
pub take-set : {A : Type 0} (n q : ℕ) (xs : List A) (x : A) → q < n → take n (set xs q x) ≡ set (take n xs) q x
take-set zero q xs x h = absurd (omega arith)
take-set (suc n) q [] x h = refl
take-set (suc n) zero (y ∷ xs) x h = refl
take-set (suc n) (suc q) (y ∷ xs) x h = ap (λ l. y ∷ l) (take-set n q xs x (omega arith))

-- one of the first lists
pub get_or-take : {A : Type 0} (n q : ℕ) (xs : List A) (d : A) → q < n → get_or (take n xs) q d ≡ get_or xs q d
get_or-take zero q xs d h = absurd (omega arith)
get_or-take (suc n) q [] d h = refl
get_or-take (suc n) zero (y ∷ xs) d h = refl
get_or-take (suc n) (suc q) (y ∷ xs) d h = get_or-take n q xs d (omega arith)

-- the semaphores if a list alone changes
pub semaphores-list : (sem : ℕ) (ls : List (List Entry)) (ms : List Mark) (l : List Entry) → sem < length ls
    → semaphores_of (set ls sem l) ms ≡ set (semaphores_of ls ms) sem (semaphore_of l (get_or ms sem no_mark))
semaphores-list sem [] ms l h = absurd (omega arith)
semaphores-list zero (k ∷ ls) [] l h = refl
semaphores-list (suc sem) (k ∷ ls) [] l h = refl
semaphores-list zero (k ∷ ls) (n ∷ ms) l h = refl
semaphores-list (suc sem) (k ∷ ls) (n ∷ ms) l h = ap (λ x. semaphore_of k n ∷ x) (semaphores-list sem ls ms l (omega arith))

-- the semaphores if a mark alone changes
pub semaphores-mark : (sem : ℕ) (ls : List (List Entry)) (ms : List Mark) (m : Mark)
    → semaphores_of ls (set ms sem m) ≡ set (semaphores_of ls ms) sem (semaphore_of (list_at ls sem) m)
semaphores-mark sem ls [] m = refl
semaphores-mark zero [] (n ∷ ms) m = refl
semaphores-mark (suc sem) [] (n ∷ ms) m = ap (λ x. semaphore_of [] n ∷ x) (semaphores-mark sem [] ms m)
semaphores-mark zero (k ∷ ls) (n ∷ ms) m = refl
semaphores-mark (suc sem) (k ∷ ls) (n ∷ ms) m = ap (λ x. semaphore_of k n ∷ x) (semaphores-mark sem ls ms m)

-- one of the semaphores
pub semaphores-get : (sem : ℕ) (ls : List (List Entry)) (ms : List Mark) → sem < length ms
    → get_or (semaphores_of ls ms) sem no_semaphore ≡ semaphore_of (list_at ls sem) (get_or ms sem no_mark)
semaphores-get sem ls [] h = absurd (omega arith)
semaphores-get zero [] (m ∷ ms) h = refl
semaphores-get (suc sem) [] (m ∷ ms) h = semaphores-get sem [] ms (omega arith)
semaphores-get zero (l ∷ ls) (m ∷ ms) h = refl
semaphores-get (suc sem) (l ∷ ls) (m ∷ ms) h = semaphores-get sem ls ms (omega arith)

-- there are as many as marks
pub semaphores-length : (ls : List (List Entry)) (ms : List Mark) → length (semaphores_of ls ms) ≡ length ms
semaphores-length ls [] = refl
semaphores-length [] (m ∷ ms) = ap suc (semaphores-length [] ms)
semaphores-length (l ∷ ls) (m ∷ ms) = ap suc (semaphores-length ls ms)

-- the processes of a list with one put last
pub numbers-last : (l : List Entry) (e : Entry) → numbers (l ++ e ∷ []) ≡ numbers l ++ e.0 ∷ []
numbers-last [] e = refl
numbers-last (f ∷ l) e = ap (λ x. f.0 ∷ x) (numbers-last l e)
