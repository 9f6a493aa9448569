-- The causes of a refusal, in order, and which answers are -1.
use Rattle.std.specs.Prelude.{◌++◌, ◌≡◌, ℕ, zero, suc, ◌==◌, Bool, true, false, if◌then◌else◌, List, [], ◌∷◌, Option, None, Some, ℤ, pos, negsuc}
use Rattle.std.specs.List.{AllByRecursion}
use Rattle.refusal_reasons.specs.declared.reasons.Cause.{Cause}
use Rattle.refusal_reasons.specs.declared.reasons.Reason.{Reason}
use Rattle.refusal_reasons.specs.declared.reasons.Reason.TheVariants.{NoCall}
use Rattle.xinu_model.specs.Machine.{Xinu, Answer, Returns, Waits, Gone, Panics, Silent}
use Rattle.xinu_model.specs.Words.{signed}

-- this is the reason, if that holds
abbrev pub cause : Reason → Bool → Cause
cause reason holds = record { holds = holds; reason = reason }

-- the reason of the first cause that holds
abbrev pub first_reason : List Cause → Option Reason
first_reason [] = None
first_reason (c ∷ causes) = if c.holds then Some c.reason else first_reason causes

-- The causes for which the call of a number is refused, by its arguments and the state, in the order in which they are looked at.
pub record CauseRow : Type 0 where
  pub number : ℕ
  pub causes : (ℕ → ℕ) → Xinu → List Cause

abbrev pub row : ℕ → ((ℕ → ℕ) → Xinu → List Cause) → CauseRow
row number causes = record { number = number; causes = causes }

-- the causes of the first row of a number; a number without a call is refused
abbrev pub causes_in : List CauseRow → ℕ → (ℕ → ℕ) → Xinu → List Cause
causes_in [] number a s = cause NoCall true ∷ []
causes_in (r ∷ rows) number a s = if number == r.number then r.causes a s else causes_in rows number a s

-- whether a number is -1, which is also the answer of a call that is refused
abbrev pub is_minus_one : ℤ → Bool
is_minus_one (pos n) = false
is_minus_one (negsuc zero) = true
is_minus_one (negsuc (suc n)) = false

-- whether a number is negative
abbrev pub is_negative : ℤ → Bool
is_negative (pos n) = false
is_negative (negsuc n) = true

-- whether there is a message, and it is -1
abbrev pub is_minus_one_message : Option ℕ → Bool
is_minus_one_message None = false
is_minus_one_message (Some message) = is_minus_one (signed message)

-- whether an answer is -1
abbrev pub answers_minus_one : Answer → Bool
answers_minus_one (Returns value) = is_minus_one value
answers_minus_one Waits = false
answers_minus_one Gone = false
answers_minus_one Panics = false
answers_minus_one Silent = false

-- A reason is that of the first cause that holds: it holds, and none before it does.
pub record IsFirst (causes : List Cause) (reason : Reason) : Type 0 where
  pub before : List Cause
  pub first : Cause
  pub after : List Cause
  pub are : causes ≡ before ++ first ∷ after
  pub none : AllByRecursion (λ (c : Cause). c.holds ≡ false) before
  pub holds : first.holds ≡ true
  pub gives : first.reason ≡ reason
