-- What walks met, and how often.
use Rattle.std.specs.Prelude.{ℕ, zero, suc, ◌+◌, Bool, cond, nat_lt, nat_eq, min, List, [], ◌∷◌, length, slice_index, slice_set, Option, Some, None}

-- the number that names no block
abbrev pub null : ℕ
null = 4294967295

-- how often a number was met
abbrev pub times_met : ℕ → List ℕ → ℕ
times_met n [] = 0
times_met n (x ∷ xs) = cond (nat_eq x n) 1 0 + times_met n xs

-- the lowest that passes the test among numbers from low on
unfoldable pub lowest_from : (ℕ → Bool) → ℕ → ℕ → Option ℕ
lowest_from test low zero = None
lowest_from test low (suc many) = cond (test low) (Some low) (lowest_from test (suc low) many)

-- one meet more of a number, up to 2
abbrev pub counted_more : List ℕ → ℕ → List ℕ
counted_more counts at = cond (nat_lt at (length counts)) (slice_set counts at (min 2 (slice_index counts at + 1))) counts
