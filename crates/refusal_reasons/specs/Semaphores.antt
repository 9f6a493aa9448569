-- Why the calls on semaphores are refused (book, chapter 7).
use Rattle.std.specs.Prelude.{ℕ, nat_lt, not, List, [], ◌∷◌, is_some, ◌+ℤ◌, int_lt}
use Rattle.refusal_reasons.specs.Causes.{cause, CauseRow, row, is_minus_one, is_negative}
use Rattle.refusal_reasons.specs.declared.reasons.Cause.{Cause}
use Rattle.refusal_reasons.specs.declared.reasons.Reason.TheVariants.{NoSemaphore, KernelSemaphore, NoFreeSemaphore, NegativeCount, NegativeSignals, CountTooGreat, CountIsMinusOne}
use Rattle.xinu_model.specs.Machine.{Xinu}
use Rattle.xinu_model.specs.Semaphores.Counts.{most_tokens, count_of, is_images}
use Rattle.xinu_model.specs.Sound.Tables.{times}
use Rattle.xinu_model.specs.Tables.{Semaphore, Tables, semaphore_at}
use Rattle.xinu_model.specs.Words.{signed}

-- how many semaphores aren't in use
abbrev pub free_semaphores : Tables → ℕ
free_semaphores t = times (λ (x : Semaphore). not (is_some x.owner)) t.semaphores

-- no semaphore has this number
abbrev pub no_semaphore : ℕ → Xinu → Cause
no_semaphore sem s = cause NoSemaphore (not (is_some (semaphore_at s.tables sem).owner))

-- it is the kernel's own, and no process may name it
abbrev pub kernel_semaphore : ℕ → Xinu → Cause
kernel_semaphore sem s = cause KernelSemaphore (not (is_images (semaphore_at s.tables sem).owner))

-- no semaphore is free
abbrev pub no_free_semaphore : Xinu → Cause
no_free_semaphore s = cause NoFreeSemaphore (nat_lt (free_semaphores s.tables) 1)

-- `semcreate`, with a word for its count
abbrev pub semcreate_causes : ℕ → Xinu → List Cause
semcreate_causes count s = cause NegativeCount (is_negative (signed count)) ∷ no_free_semaphore s ∷ []

-- `semdelete` and `wait`
abbrev pub semaphore_named : ℕ → Xinu → List Cause
semaphore_named sem s = no_semaphore sem s ∷ kernel_semaphore sem s ∷ []

-- `semreset`, with a word for its count
abbrev pub semreset_causes : ℕ → ℕ → Xinu → List Cause
semreset_causes sem count s = no_semaphore sem s ∷ kernel_semaphore sem s ∷ cause NegativeCount (is_negative (signed count)) ∷ []

-- `semcount`: the count is answered
abbrev pub semcount_causes : ℕ → Xinu → List Cause
semcount_causes sem s =
    no_semaphore sem s ∷ kernel_semaphore sem s ∷ cause CountIsMinusOne (is_minus_one (count_of (semaphore_at s.tables sem))) ∷ []

-- `signal`
abbrev pub signal_causes : ℕ → Xinu → List Cause
signal_causes sem s =
    no_semaphore sem s ∷ kernel_semaphore sem s ∷ cause CountTooGreat (not (int_lt (count_of (semaphore_at s.tables sem)) most_tokens)) ∷ []

-- `signaln`, with a word for the number of signals
abbrev pub signaln_causes : ℕ → ℕ → Xinu → List Cause
signaln_causes sem n s =
    no_semaphore sem s
    ∷ kernel_semaphore sem s
    ∷ cause NegativeSignals (is_negative (signed n))
    ∷ cause CountTooGreat (int_lt most_tokens (count_of (semaphore_at s.tables sem) +ℤ signed n))
    ∷ []

-- the calls on semaphores
abbrev pub semaphore_causes : List CauseRow
semaphore_causes =
    row 14 (λ a s. semcreate_causes (a 0) s) ∷
    row 15 (λ a s. semaphore_named (a 0) s) ∷
    row 16 (λ a s. semreset_causes (a 0) (a 1) s) ∷
    row 17 (λ a s. semcount_causes (a 0) s) ∷
    row 18 (λ a s. semaphore_named (a 0) s) ∷
    row 19 (λ a s. signal_causes (a 0) s) ∷
    row 20 (λ a s. signaln_causes (a 0) (a 1) s) ∷
    []
