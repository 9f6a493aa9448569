-- What comes of a signal.
use Rattle.std.specs.Prelude.{ℕ, ◌+◌, if◌then◌else◌, List, [], ◌∷◌, int_lt}
use Rattle.semaphores.specs.declared.waiting.Signalled.{Signalled}
use Rattle.semaphores.specs.declared.waiting.Signalled.TheVariants.{Full, Kept, Released}
use Rattle.xinu_model.specs.Process.Scheduling.{ready}
use Rattle.xinu_model.specs.Semaphores.Counts.{count_of, most_tokens, with_tokens}
use Rattle.xinu_model.specs.Tables.{Semaphore, Tables, semaphore_at}

-- the first of those who wait is released, and if none does the token is kept
abbrev pub answer_to : List ℕ → Signalled
answer_to [] = Kept
answer_to (p ∷ ps) = Released p

-- what comes of a signal at a semaphore
abbrev pub signal_answer : Semaphore → Signalled
signal_answer x = if int_lt (count_of x) most_tokens then answer_to x.waiters else Full

-- the tables after this came of a signal at semaphore sem
abbrev pub after_signal : Signalled → ℕ → Tables → Tables
after_signal Full sem t = t
after_signal Kept sem t = with_tokens sem ((semaphore_at t sem).tokens + 1) t
after_signal (Released p) sem t = ready p t
