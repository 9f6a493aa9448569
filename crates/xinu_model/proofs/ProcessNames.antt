-- Names as a process has them.
use Rattle.std.proofs.Common.{◌≡◌, ℕ, zero, suc, ◌≤◌, List, [], ◌∷◌, ◌++◌, length, take, drop, replicate, refl, sym, ap, arith}

-- the first of some zeros
pub take_zeros : (n m : ℕ) → n ≤ m → take n (replicate {A = ℕ} m 0) ≡ replicate n 0
take_zeros zero m h = refl
take_zeros (suc n) zero h = absurd (omega arith)
take_zeros (suc n) (suc m) h = ap (λ l. 0 ∷ l) (take_zeros n m (omega arith))

-- a name written over the first of n zeros is the name with zeros after it, cut to n bytes
pub written_over : (name : List ℕ) (n m : ℕ) → length name ≤ n → n ≤ m
    → name ++ drop (length name) (replicate n 0) ≡ take n (name ++ replicate m 0)
written_over [] n m h le = sym (take_zeros n m le)
written_over (b ∷ name) zero m h le = absurd (omega arith)
written_over (b ∷ name) (suc n) m h le = ap (λ l. b ∷ l) (written_over name n m (omega arith) (omega arith))
