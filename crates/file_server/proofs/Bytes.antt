-- Bytes of RAM from an address on are a part of it.
use Rattle.std.proofs.Common.{◌≡◌, ℕ, zero, suc, ◌+◌, ◌≤◌, List, ◌∷◌, length, take, drop, refl, ap, sym, ◌∙◌, arith, slice_index}
use Rattle.std.proofs.Math.Seq.{drop-cons}
use Rattle.std.proofs.lemmas.List.{length-take, length-drop}
use Rattle.xinu_model.specs.Memory.{bytes_from}

bytes_cut : (n : ℕ) (memory : List ℕ) (at : ℕ) → at + n ≤ length memory → bytes_from memory at n ≡ take n (drop at memory)
unfolding bytes_from
bytes_cut zero memory at h = refl
bytes_cut (suc n) memory at h =
    let cons = drop-cons memory at 0 (omega (arith, h)) in
    let next : at + 1 ≡ suc at = omega arith in
    ap (λ t. slice_index memory at ∷ t) (bytes_cut n memory (at + 1) (omega (arith, h)) ∙ ap (λ k. take n (drop k memory)) next)
    ∙ sym (ap (take (suc n)) cons)

-- so are those that were read, if there are as many as were asked for
pub bytes_read : (n : ℕ) (memory : List ℕ) (at : ℕ) → length (take n (drop at memory)) ≡ n → bytes_from memory at n ≡ take n (drop at memory)
unfolding bytes_from
bytes_read zero memory at long = refl
bytes_read (suc n) memory at long =
    let a = length-take (suc n) (drop at memory) in
    let b = length-drop at memory in
    bytes_cut (suc n) memory at (omega (arith, a, b, long))
