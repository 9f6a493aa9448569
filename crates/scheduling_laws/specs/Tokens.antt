-- What the count of a process's semaphore comes to over a stretch of a run (book, chapter 7).
use Rattle.std.specs.Prelude.{ℕ, ◌==◌, Bool, false, not, if◌then◌else◌, ◌&&◌, ◌||◌, List, [], ◌∷◌, filter, slice_index, Option, Some, None, ℤ, pos, negsuc, ◌+ℤ◌, int_lt}
use Rattle.std.specs.List.{list_any}
use Rattle.xinu_base.specs.declared.syscalls.Call.{Call}
use Rattle.xinu_model.specs.Semaphores.Counts.{count_of, most_tokens}
use Rattle.xinu_model.specs.Sound.Tables.{times, total}
use Rattle.xinu_model.specs.Tables.{Semaphore, Tables, is_free, semaphore_at, state_at}
use Rattle.xinu_model.specs.Words.{signed}
use Rattle.scheduling_laws.specs.Moments.{Moment, call_in}

-- a semaphore with those of its waiters who live
abbrev pub living : Tables → Semaphore → Semaphore
living t x = record { owner = x.owner; tokens = x.tokens; waiters = filter (λ p. not (is_free (state_at t p))) x.waiters }

-- whether the call of a number changes the semaphore that its first argument names: `semdelete`, `semreset`, `wait`, `signal`, `signaln`
abbrev pub changes_semaphore : ℕ → Bool
changes_semaphore number = list_any (λ n. number == n) (15 ∷ 16 ∷ 18 ∷ 19 ∷ 20 ∷ [])

-- whether a call, if one is made, changes semaphore sem
abbrev pub changes : ℕ → Option Call → Bool
changes sem None = false
changes sem (Some call) = changes_semaphore call.number && (slice_index call.args 0 == sem)

-- whether the call of this number on semaphore sem is made
abbrev pub is_made : ℕ → ℕ → Option Call → Bool
is_made number sem None = false
is_made number sem (Some call) = (call.number == number) && (slice_index call.args 0 == sem)

-- whether a semaphore is given up or gets a count, by `semdelete` or `semreset`
abbrev pub renews : ℕ → Option Call → Bool
renews sem made = is_made 15 sem made || is_made 16 sem made

-- how many `wait`s on semaphore sem are called
abbrev pub waits_by : ℕ → Option Call → ℕ
waits_by sem made = if is_made 18 sem made then 1 else 0

-- how many signals a call asks for: `signal` for one, `signaln` for as many as its second argument says
abbrev pub asks : Call → ℤ
asks call = if call.number == 19 then pos 1 else (if call.number == 20 then signed (slice_index call.args 1) else pos 0)

-- So many are given at this count, unless the call is refused: it asks for fewer than none, or the count would pass the greatest.
abbrev pub given : ℤ → ℤ → ℕ
given count (negsuc n) = 0
given count (pos n) = if int_lt most_tokens (count +ℤ pos n) then 0 else n

abbrev pub signals_by : ℕ → ℤ → Option Call → ℕ
signals_by sem count None = 0
signals_by sem count (Some call) = if slice_index call.args 0 == sem then given count (asks call) else 0

-- of the waiters of a semaphore, how many are dead in these tables
abbrev pub dead_in : Tables → Semaphore → ℕ
dead_in t x = times (λ p. is_free (state_at t p)) x.waiters

-- in these moments: whether semaphore sem is given up or gets a count in one of them, how many `wait`s on it are called, how many signals it
-- gets, and how many processes are killed that wait on it
abbrev pub is_renewed : ℕ → List Moment → Bool
is_renewed sem ms = list_any (λ (m : Moment). renews sem (call_in m.event m.lines)) ms

abbrev pub waits : ℕ → List Moment → ℕ
waits sem ms = total (λ (m : Moment). waits_by sem (call_in m.event m.lines)) ms

abbrev pub signals : ℕ → List Moment → ℕ
signals sem ms = total (λ (m : Moment). signals_by sem (count_of (semaphore_at m.before.tables sem)) (call_in m.event m.lines)) ms

abbrev pub killed_waiters : ℕ → List Moment → ℕ
killed_waiters sem ms = total (λ (m : Moment). dead_in m.after.tables (semaphore_at m.before.tables sem)) ms
