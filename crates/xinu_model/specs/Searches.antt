-- The search for a free number, which goes round: after the last number given first (book, chapters 5 and 7).
use Rattle.std.specs.List.{find}
use Rattle.std.specs.Prelude.{ℕ, zero, suc, ◌+◌, ◌-◌, min, Bool, List, [], ◌∷◌, ◌++◌, Option}

-- n numbers from n on
abbrev pub numbers_from : ℕ → ℕ → List ℕ
numbers_from n zero = []
numbers_from n (suc k) = n ∷ numbers_from (n + 1) k

-- the numbers below a size, from `first` on and then those below it
abbrev pub going_round : ℕ → ℕ → List ℕ
going_round size first = numbers_from first (size - first) ++ numbers_from 0 (min first size)

-- the number that a search finds; it looks at `first` first
abbrev pub search : (ℕ → Bool) → ℕ → ℕ → Option ℕ
search test size first = find test (going_round size first)
