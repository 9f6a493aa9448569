-- Bytes of RAM: a range of it read byte by byte, and no bytes written.
use Rattle.std.proofs.Common.{◌≡◌, ◌∙◌, ℕ, zero, suc, ◌+◌, ◌<◌, ◌≤◌, List, [], ◌∷◌, ◌++◌, length, take, drop, refl, sym, ap, add-one, arith, drop-cons}
use Rattle.std.proofs.lemmas.List.{length-take, length-drop}
use Rattle.std.specs.Prelude.{slice_index}
use Rattle.xinu_model.specs.Memory.{bytes_from, with_bytes}

-- a range that is in a list, byte by byte
pub bytes_taken : (memory : List ℕ) (at n : ℕ) → at + n ≤ length memory → take n (drop at memory) ≡ bytes_from memory at n
unfolding bytes_from
bytes_taken memory at zero h = refl
bytes_taken memory at (suc n) h =
    ap (take (suc n)) (drop-cons memory at 0 (omega arith))
    ∙ ap (λ (l : List ℕ). slice_index memory at ∷ l) (ap (λ k. take n (drop k memory)) (sym (add-one at)) ∙ bytes_taken memory (at + 1) n (omega arith))

pub range_taken : (memory : List ℕ) (at n : ℕ) → 0 < n → length (take n (drop at memory)) ≡ n → take n (drop at memory) ≡ bytes_from memory at n
range_taken memory at n some h =
    let e = length-take n (drop at memory) in
    let f = length-drop at memory in
    bytes_taken memory at n (omega (arith, some, h, e, f))

-- no bytes change nothing
pub no_bytes : (memory : List ℕ) (at : ℕ) → with_bytes memory at 0 [] ≡ memory
no_bytes memory at = let e : at + 0 ≡ at = omega arith in ap (λ k. take at memory ++ [] ++ drop k memory) e ∙ whole memory at
  where
    whole : (l : List ℕ) (i : ℕ) → take i l ++ [] ++ drop i l ≡ l
    whole [] zero = refl
    whole [] (suc i) = refl
    whole (x ∷ l) zero = refl
    whole (x ∷ l) (suc i) = ap (λ (m : List ℕ). x ∷ m) (whole l i)
