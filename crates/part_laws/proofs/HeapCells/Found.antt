-- What a search for free cells in a row finds: free cells, and the first or the last such place.
use Rattle.std.proofs.Common.{◌≡◌, ℕ, zero, suc, ◌<◌, Bool, true, List, [], ◌∷◌, length, Option, Some, None, subst, arith}
use Rattle.std.specs.Prelude.{option_map}
use Rattle.std.proofs.lemmas.Bool.{cond_both}
use Rattle.part_laws.specs.FreeCells.{BeginAt, NoneAt, IsLeast, IsGreatest, BeginNowhere}
use Rattle.xinu_model.specs.Heap.Cells.{begins_with, or_here, highest_free, lowest_free}

-- what an option that has a value says of the value
abbrev pub OfFound : (ℕ → Type 0) → Type 0 → Option ℕ → Type 0
OfFound P Q (Some n) = P n
OfFound P Q None = Q

-- no place of a list with one more cell before it
nowhere_more : (k : ℕ) (c : Bool) (cells : List Bool) → NoneAt k (c ∷ cells) 0 → BeginNowhere k cells → BeginNowhere k (c ∷ cells)
nowhere_more k c cells here more zero w = here
nowhere_more k c cells here more (suc i) w = more i (omega arith)

-- the least start one place further
least_more : (k : ℕ) (c : Bool) (cells : List Bool) (start : ℕ) → NoneAt k (c ∷ cells) 0 → IsLeast k cells start
    → IsLeast k (c ∷ cells) (suc start)
least_more k c cells start here l = record {
  place = let w = l.place in omega arith;
  begins = l.begins;
  least = before;
} where
  before : (i : ℕ) → i < suc start → NoneAt k (c ∷ cells) i
  before zero w = here
  before (suc i) w = l.least i (omega arith)

-- what the search for the lowest says, one cell further
lowest_step : (k : ℕ) (c : Bool) (cells : List Bool) (found : Option ℕ) → NoneAt k (c ∷ cells) 0
    → OfFound (IsLeast k cells) (BeginNowhere k cells) found
    → OfFound (IsLeast k (c ∷ cells)) (BeginNowhere k (c ∷ cells)) (option_map suc found)
lowest_step k c cells None here more = nowhere_more k c cells here more
lowest_step k c cells (Some start) here more = least_more k c cells start here more

-- The search for the lowest free cells finds the least start, or there is none.
pub lowest_says : (k : ℕ) (cells : List Bool) → OfFound (IsLeast k cells) (BeginNowhere k cells) (lowest_free k cells)
lowest_says k [] = λ i w. absurd (omega arith)
lowest_says k (c ∷ cells) =
    cond_both (begins_with true k (c ∷ cells)) (Some 0) (option_map suc (lowest_free k cells))
    (OfFound (IsLeast k (c ∷ cells)) (BeginNowhere k (c ∷ cells)))
    (λ b. record { place = omega arith; begins = b; least = λ i w. absurd (omega arith) })
    (λ b. lowest_step k c cells (lowest_free k cells) b (lowest_says k cells))

-- the greatest start one place further
greatest_more : (k : ℕ) (c : Bool) (cells : List Bool) (start : ℕ) → IsGreatest k cells start → IsGreatest k (c ∷ cells) (suc start)
greatest_more k c cells start g = record {
  place = let w = g.place in omega arith;
  begins = g.begins;
  greatest = after;
} where
  after : (i : ℕ) → suc start < i → i < length (c ∷ cells) → NoneAt k (c ∷ cells) i
  after zero low high = absurd (omega arith)
  after (suc i) low high = g.greatest i (omega arith) (omega arith)

-- if k free cells begin at no place after the first, the first is the greatest start if they begin there
greatest_here : (k : ℕ) (c : Bool) (cells : List Bool) → BeginAt k (c ∷ cells) 0 → BeginNowhere k cells → IsGreatest k (c ∷ cells) 0
greatest_here k c cells here none = record {
  place = omega arith;
  begins = here;
  greatest = after;
} where
  after : (i : ℕ) → 0 < i → i < length (c ∷ cells) → NoneAt k (c ∷ cells) i
  after zero low high = absurd (omega arith)
  after (suc i) low high = none i (omega arith)

-- what the search for the highest says, one cell further
highest_step : (k : ℕ) (c : Bool) (cells : List Bool) (found : Option ℕ) → OfFound (IsGreatest k cells) (BeginNowhere k cells) found
    → OfFound (IsGreatest k (c ∷ cells)) (BeginNowhere k (c ∷ cells)) (or_here k (c ∷ cells) found)
highest_step k c cells (Some start) more = greatest_more k c cells start more
highest_step k c cells None more =
    cond_both (begins_with true k (c ∷ cells)) (Some 0) None (OfFound (IsGreatest k (c ∷ cells)) (BeginNowhere k (c ∷ cells)))
    (λ b. greatest_here k c cells b more)
    (λ b. nowhere_more k c cells b more)

-- The search for the highest free cells finds the greatest start, or there is none.
pub highest_says : (k : ℕ) (cells : List Bool) → OfFound (IsGreatest k cells) (BeginNowhere k cells) (highest_free k cells)
highest_says k [] = λ i w. absurd (omega arith)
highest_says k (c ∷ cells) = highest_step k c cells (highest_free k cells) (highest_says k cells)

-- What is found first is the least start: no k free cells begin before it.
pub lowest_is_least : (k : ℕ) (cells : List Bool) (start : ℕ) → lowest_free k cells ≡ Some start → IsLeast k cells start
lowest_is_least k cells start e = subst (OfFound (IsLeast k cells) (BeginNowhere k cells)) e (lowest_says k cells)

-- If nothing is found from below, no k free cells begin anywhere.
pub lowest_is_nowhere : (k : ℕ) (cells : List Bool) → lowest_free k cells ≡ None → BeginNowhere k cells
lowest_is_nowhere k cells e = subst (OfFound (IsLeast k cells) (BeginNowhere k cells)) e (lowest_says k cells)

-- What is found from above is the greatest start: no k free cells begin after it.
pub highest_is_greatest : (k : ℕ) (cells : List Bool) (start : ℕ) → highest_free k cells ≡ Some start → IsGreatest k cells start
highest_is_greatest k cells start e = subst (OfFound (IsGreatest k cells) (BeginNowhere k cells)) e (highest_says k cells)

-- If nothing is found from above, no k free cells begin anywhere.
pub highest_is_nowhere : (k : ℕ) (cells : List Bool) → highest_free k cells ≡ None → BeginNowhere k cells
highest_is_nowhere k cells e = subst (OfFound (IsGreatest k cells) (BeginNowhere k cells)) e (highest_says k cells)
