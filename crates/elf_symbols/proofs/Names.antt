-- A name goes to the first zero.
use Rattle.std.proofs.Common.{◌≡◌, ℕ, ◌≤◌, not, List, length, take, position, take_while, cond, nat_lt, Some, None, sym, ap, arith}
use Rattle.std.specs.Prelude.{◌==◌}
use Rattle.std.specs.List.{position_or_len}
use Rattle.std.proofs.lemmas.Bool.Decides.{nat_tests}
use Rattle.std.proofs.lemmas.List.{take_all}

found_at : (n m i : ℕ) → cond (nat_lt n m) (Some n) None ≡ Some i → n ≡ i
found_at n m i is = grind (arith, nat_tests)

found_none : (n m : ℕ) → cond (nat_lt n m) (Some n) None ≡ None → m ≤ n
found_none n m is = grind (arith, nat_tests)

pub up_to-found : (bytes : List ℕ) (i : ℕ) → position (λ b. b == 0) bytes ≡ Some i → take i bytes ≡ take_while (λ b. not (b == 0)) bytes
up_to-found bytes i is =
    ap (λ (n : ℕ). take n bytes) (sym (found_at (position_or_len (λ b. b == 0) bytes) (length bytes) i is))

pub up_to-none : (bytes : List ℕ) → position (λ b. b == 0) bytes ≡ None → bytes ≡ take_while (λ b. not (b == 0)) bytes
up_to-none bytes is =
    sym (take_all (position_or_len (λ b. b == 0) bytes) bytes (found_none (position_or_len (λ b. b == 0) bytes) (length bytes) is))
