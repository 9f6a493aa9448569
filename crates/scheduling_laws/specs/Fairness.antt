-- In which order those who wait on a semaphore go on, and run (book, chapter 7).
use Rattle.std.specs.Prelude.{◌≡◌, ◌≢◌, ◌⊎◌, ℕ, ◌<◌, List, [], ◌∷◌, map, ℤ}
use Rattle.xinu_model.specs.Sound.Tables.{count_in}
use Rattle.xinu_model.specs.Tables.{Tables, semaphore_at}

-- Process p is in a list before q.
abbrev pub IsBefore : ℕ → ℕ → List ℕ → Type 0
IsBefore p q [] = ⊥
IsBefore p q (x ∷ xs) = ((x ≡ p) × (0 < count_in q xs)) ⊎ ((x ≢ q) × IsBefore p q xs)

-- Process p waits on a semaphore before q.
abbrev pub WaitsBefore : ℕ → ℕ → ℕ → Tables → Type 0
WaitsBefore sem p q t = IsBefore p q (semaphore_at t sem).waiters

-- Process p doesn't wait on a semaphore.
abbrev pub IsReleased : ℕ → ℕ → Tables → Type 0
IsReleased sem p t = count_in p (semaphore_at t sem).waiters ≡ 0

-- the processes of the ready list, in order
abbrev pub firsts : List (ℕ × ℤ) → List ℕ
firsts l = map (λ e. e.0) l

-- Process p runs, or it is in the ready list before q.
abbrev pub IsAhead : ℕ → ℕ → Tables → Type 0
IsAhead p q t = (t.current ≡ p) ⊎ IsBefore p q (firsts t.ready)
