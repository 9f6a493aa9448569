-- Who is between its `wait` and its `signal` on a semaphore (book, chapter 7).
use Rattle.std.specs.Prelude.{◌≡◌, ℕ, ◌==◌, Bool, true, false, if◌then◌else◌, ◌&&◌, ◌||◌, List, [], ◌∷◌}
use Rattle.xinu_model.specs.Sound.Tables.{count_in}
use Rattle.xinu_model.specs.Tables.{Tables, is_free, semaphore_at, state_at}
use Rattle.scheduling_laws.specs.Moments.{Moment, call_in}
use Rattle.scheduling_laws.specs.Tokens.{is_made, renews}

-- No process has called `wait`.
abbrev pub nobody : ℕ → Bool
nobody p = false

-- Whether process p has called `wait` on semaphore sem, and neither `signal` since, nor died: after a moment, by whether it had before.
abbrev pub entered : ℕ → Moment → (ℕ → Bool) → ℕ → Bool
entered sem m before p =
    let calls = λ (number : ℕ). (m.before.tables.current == p) && is_made number sem (call_in m.event m.lines) in
    if is_free (state_at m.after.tables p) then false else (if calls 18 then true else (if calls 19 then false else before p))

-- the same after some moments
abbrev pub all_entered : ℕ → List Moment → (ℕ → Bool) → ℕ → Bool
all_entered sem [] before = before
all_entered sem (m ∷ ms) before = all_entered sem ms (entered sem m before)

-- A process is inside if its `wait` was completed, so that it isn't among the waiters, and it hasn't called `signal` since.
abbrev pub is_inside : ℕ → (ℕ → Bool) → Tables → ℕ → Bool
is_inside sem has t p = has p && (count_in p (semaphore_at t sem).waiters == 0)

-- In these moments who calls `signal` on semaphore sem is inside, and nobody calls `semdelete`, `semreset` or `signaln` on it.
abbrev pub IsUsedInPairs : ℕ → (ℕ → Bool) → List Moment → Type 0
IsUsedInPairs sem before [] = Unit {0}
IsUsedInPairs sem before (m ∷ ms) =
    let made = call_in m.event m.lines in
    (is_made 19 sem made ≡ true → is_inside sem before m.before.tables m.before.tables.current ≡ true)
    × (renews sem made || is_made 20 sem made ≡ false)
    × IsUsedInPairs sem (entered sem m before) ms
