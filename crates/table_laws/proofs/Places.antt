-- Where the buffers of a pool are: the k-th is k steps after the first.
use Rattle.std.proofs.Common.{◌≡◌, ◌≢◌, ℕ, zero, suc, ◌+◌, ◌*◌, ◌/◌, ◌%◌, ◌<◌, ◌≤◌, ◌==◌, true, false, sym, ap, ◌∙◌, ⊎_elim, arith}
use Rattle.std.specs.Prelude.{nat_lt}
use Rattle.std.proofs.Math.Nat.{mul-mod_left}
use Rattle.std.proofs.lemmas.Bool.{cases_lt, eq-eqb, eqb-true, false_from_ne_true, le-ltb, lt-ltb, or_cases, or_left, or_right}
use Rattle.std.proofs.lemmas.Nat.{div-add-mod', mul-le}
use Rattle.xinu_model.specs.Pools.Buffers.{addresses, is_in}

-- what is k steps after the first is an address
pub in_at : (x a step n k : ℕ) → k < n → x ≡ a + k * step → is_in x (addresses a step n) ≡ true
in_at x a step zero k h e = absurd (omega arith)
in_at x a step (suc n) zero h e = or_left (x == a) (is_in x (addresses (a + step) step n)) (eq-eqb x a (omega arith))
in_at x a step (suc n) (suc k) h e = or_right (x == a) (is_in x (addresses (a + step) step n))
    (in_at x (a + step) step n k (omega arith) (omega arith))

-- and each address is so many steps after the first
pub at_in : (x a step n : ℕ) → is_in x (addresses a step n) ≡ true → (k : ℕ) × (k < n) × (x ≡ a + k * step)
at_in x a step zero h = cc
at_in x a step (suc n) h = ⊎_elim
    (λ (b : (x == a) ≡ true). let e = eqb-true x a b in (0, omega arith, omega arith))
    (λ (b : is_in x (addresses (a + step) step n) ≡ true). let r = at_in x (a + step) step n b in
    let l = r.1 in let e = r.2 in (suc r.0, omega arith, omega arith)) (or_cases (x == a) (is_in x (addresses (a + step) step n)) h)

-- no address is below the first
pub below_is_out : (x a step n : ℕ) → x < a → is_in x (addresses a step n) ≡ false
below_is_out x a step n h = false_from_ne_true (is_in x (addresses a step n))
    (λ b. let r = at_in x a step n b in let e = r.2 in omega arith)

-- whole steps after the first there is an address, if they are few enough
pub whole_steps : (x a step n offset : ℕ) → 0 < step → x ≡ a + offset → offset % step ≡ 0
    → nat_lt (offset / step) n ≡ is_in x (addresses a step n)
whole_steps x a step n offset some is e =
    let k = offset / step in
    let at = div-add-mod' offset step in
    ⊎_elim
    (λ (l : k < n). lt-ltb k n l ∙ sym (in_at x a step n k l (omega arith)))
    (λ (l : n ≤ k). le-ltb k n l ∙ sym (false_from_ne_true (is_in x (addresses a step n))
    (λ b. let r = at_in x a step n b in let few = r.1 in let same = r.2 in
    let m = mul-le (suc r.0) step k step (omega arith) (omega arith) in omega arith)))
    (cases_lt k n)

-- elsewhere there is none
pub part_of_step : (x a step n offset : ℕ) → x ≡ a + offset → offset % step ≢ 0 → is_in x (addresses a step n) ≡ false
part_of_step x a step n offset is e = false_from_ne_true (is_in x (addresses a step n))
    (λ b. let r = at_in x a step n b in let same = r.2 in
    let d : offset ≡ r.0 * step = omega arith in e (ap (λ y. y % step) d ∙ mul-mod_left r.0 step))
