-- The first reason of two lists of causes.
use Rattle.std.proofs.Common.{◌≡◌, Bool, true, false, List, [], ◌∷◌, ◌++◌, Some, refl, cond}
use Rattle.std.specs.Prelude.{is_some}
use Rattle.refusal_reasons.specs.Causes.{first_reason}
use Rattle.refusal_reasons.specs.declared.reasons.Cause.{Cause}

-- the first list has one
pub first_of_first : (xs ys : List Cause) → is_some (first_reason xs) ≡ true → first_reason xs ≡ first_reason (xs ++ ys)
first_of_first [] ys e = absurd (cc)
first_of_first (c ∷ xs) ys e = by_test c.holds (first_of_first xs ys) e
  where
    by_test : (b : Bool) → (is_some (first_reason xs) ≡ true → first_reason xs ≡ first_reason (xs ++ ys))
        → is_some (cond b (Some c.reason) (first_reason xs)) ≡ true
        → cond b (Some c.reason) (first_reason xs) ≡ cond b (Some c.reason) (first_reason (xs ++ ys))
    by_test true f h = refl
    by_test false f h = f h

-- the first list has none
pub first_of_second : (xs ys : List Cause) → is_some (first_reason xs) ≡ false → first_reason ys ≡ first_reason (xs ++ ys)
first_of_second [] ys e = refl
first_of_second (c ∷ xs) ys e = by_test c.holds (first_of_second xs ys) e
  where
    by_test : (b : Bool) → (is_some (first_reason xs) ≡ false → first_reason ys ≡ first_reason (xs ++ ys))
        → is_some (cond b (Some c.reason) (first_reason xs)) ≡ false → first_reason ys ≡ cond b (Some c.reason) (first_reason (xs ++ ys))
    by_test true f h = absurd (cc)
    by_test false f h = f h
