-- What a process waits for.
use Rattle.std.specs.Prelude.{ℕ, ◌+◌, ◌==◌, zero, suc, Bool, if◌then◌else◌, List, [], ◌∷◌, Option, Some, None}
use Rattle.std.specs.List.{list_any}
use Rattle.xinu_model.specs.Tables.{Tables, semaphore_at}

-- whether process p is in a list of processes
abbrev pub is_among : ℕ → List ℕ → Bool
is_among p l = list_any (λ q. q == p) l

-- whether process p waits on a semaphore
abbrev pub waits_on : Tables → ℕ → ℕ → Bool
waits_on t sem p = is_among p (semaphore_at t sem).waiters

-- the first semaphore on which process p waits, of so many from a number on
unfoldable pub awaited_from : Tables → ℕ → ℕ → ℕ → Option ℕ
awaited_from t p sem zero = None
awaited_from t p sem (suc left) = if waits_on t sem p then Some sem else awaited_from t p (sem + 1) left

-- the semaphore on which process p waits
abbrev pub awaited : Tables → ℕ → Option ℕ
awaited t p = awaited_from t p 0 128

-- the tick at which a sleeper wakes
abbrev pub wake_in : ℕ → List (ℕ × ℕ) → Option ℕ
wake_in p [] = None
wake_in p (e ∷ sleepers) = if e.0 == p then Some e.1 else wake_in p sleepers
