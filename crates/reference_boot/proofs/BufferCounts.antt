-- The buffers of a pool are counted one by one.
use Rattle.std.proofs.Common.{◌≡◌, ◌∙◌, ℕ, suc, ◌+◌, ◌-◌, ◌*◌, ◌<◌, Bool, true, false, cond, List, ◌∷◌, length, sym, ap, arith}
use Rattle.std.proofs.Math.Nat.{suc-mul}
use Rattle.std.specs.List.{filter}
use Rattle.xinu_model.specs.Pools.Buffers.{addresses}

-- how many a list has whose first may pass
first_counts : (b : Bool) (x : ℕ) (l : List ℕ) → length (cond b (x ∷ l) l) ≡ cond b 1 0 + length l
first_counts true x l = omega arith
first_counts false x l = omega arith

-- of the addresses from i on, those that pass
pub one_address : (t : ℕ → Bool) (a step n i : ℕ) → i < n
    → length (filter t (addresses (a + i * step) step (n - i)))
    ≡ cond (t (a + i * step)) 1 0 + length (filter t (addresses (a + (i + 1) * step) step (n - (i + 1))))
one_address t a step n i h =
    let k = n - (i + 1) in
    let x = a + i * step in
    let left : n - i ≡ suc k = omega arith in
    let one : suc i ≡ i + 1 = omega arith in
    let next : x + step ≡ a + (i * step + step) = omega arith in
    ap (λ m. length (filter t (addresses x step m))) left
    ∙ first_counts (t x) x (filter t (addresses (x + step) step k))
    ∙ ap (λ y. cond (t x) 1 0 + length (filter t (addresses y step k)))
    (next ∙ ap (λ m. a + m) (sym (suc-mul i step) ∙ ap (λ j. j * step) one))
