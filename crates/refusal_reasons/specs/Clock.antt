-- Why the calls on the clock are refused (book, chapter 13).
use Rattle.std.specs.Prelude.{ℕ, List, [], ◌∷◌, pos, int_lt}
use Rattle.refusal_reasons.specs.Causes.{cause, CauseRow, row, is_negative}
use Rattle.refusal_reasons.specs.declared.reasons.Cause.{Cause}
use Rattle.refusal_reasons.specs.declared.reasons.Reason.TheVariants.{NegativeTime, TimeTooLong}
use Rattle.xinu_model.specs.Words.{signed}

-- `sleep`: a word, so many seconds
abbrev pub sleep_causes : ℕ → List Cause
sleep_causes seconds =
    cause NegativeTime (is_negative (signed seconds)) ∷ cause TimeTooLong (int_lt (pos 2147483) (signed seconds)) ∷ []

-- `sleepms`: a word, so many ticks
abbrev pub sleepms_causes : ℕ → List Cause
sleepms_causes ticks = cause NegativeTime (is_negative (signed ticks)) ∷ []

-- the calls on the clock
abbrev pub clock_causes : List CauseRow
clock_causes =
    row 25 (λ a s. sleep_causes (a 0)) ∷
    row 26 (λ a s. sleepms_causes (a 0)) ∷
    row 27 (λ a s. []) ∷
    []
