-- What a search for the first place says.
use Rattle.std.proofs.Common.{◌≡◌, ℕ, ◌<◌, ◌≤◌, nat_lt, cond, Some, None, arith}
use Rattle.std.proofs.lemmas.Bool.Decides.{nat_tests}

-- a place that was found
pub found_at : (n m i : ℕ) → cond (nat_lt n m) (Some n) None ≡ Some i → n ≡ i
found_at n m i is = grind (arith, nat_tests)

pub found_within : (n m i : ℕ) → cond (nat_lt n m) (Some n) None ≡ Some i → n < m
found_within n m i is = grind (arith, nat_tests)

-- no place was found
pub found_none : (n m : ℕ) → cond (nat_lt n m) (Some n) None ≡ None → m ≤ n
found_none n m is = grind (arith, nat_tests)
