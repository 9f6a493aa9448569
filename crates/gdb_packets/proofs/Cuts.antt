-- The place of the first byte that passes a test.
use Rattle.std.proofs.Common.{◌≡◌, ℕ, ◌<◌, ◌≤◌, nat_lt, Bool, not, List, length, cond, Some, None, arith}
use Rattle.std.specs.List.{position, position_or_len}
use Rattle.std.proofs.lemmas.Bool.Decides.{nat_tests}
use Rattle.std.proofs.lemmas.List.Sums.{prefix_len-le-length}

-- a place that was found
found_at : (n m i : ℕ) → cond (nat_lt n m) (Some n) None ≡ Some i → n ≡ i
found_at n m i is = grind (arith, nat_tests)

found_within : (n m i : ℕ) → cond (nat_lt n m) (Some n) None ≡ Some i → n < m
found_within n m i is = grind (arith, nat_tests)

-- no place was found
found_none : (n m : ℕ) → cond (nat_lt n m) (Some n) None ≡ None → m ≤ n
found_none n m is = grind (arith, nat_tests)

pub place_of : (p : ℕ → Bool) (bytes : List ℕ) (i : ℕ) → position p bytes ≡ Some i → position_or_len p bytes ≡ i
place_of p bytes i is = found_at (position_or_len p bytes) (length bytes) i is

pub place_within : (p : ℕ → Bool) (bytes : List ℕ) (i : ℕ) → position p bytes ≡ Some i → position_or_len p bytes < length bytes
place_within p bytes i is = found_within (position_or_len p bytes) (length bytes) i is

-- where no byte passes, the place is behind the last
pub no_place : (p : ℕ → Bool) (bytes : List ℕ) → position p bytes ≡ None → length bytes ≡ position_or_len p bytes
no_place p bytes is =
    omega (arith, found_none (position_or_len p bytes) (length bytes) is, prefix_len-le-length (λ b. not (p b)) bytes)
