-- The bytes of a block are read off RAM one after another.
use Rattle.std.proofs.Common.{◌≡◌, ◌∙◌, ℕ, zero, suc, ◌+◌, ◌<◌, List, [], ◌∷◌, ◌++◌, length, set, take, refl, sym, ap, add-one, arith, take-suc-set}
use Rattle.std.specs.Prelude.{slice_index}
use Rattle.xinu_model.specs.Memory.{bytes_from}

-- no bytes
pub no_bytes : (memory : List ℕ) (at : ℕ) → [] ≡ bytes_from memory at 0
unfolding bytes_from
no_bytes memory at = refl

-- one byte more
bytes_next : (memory : List ℕ) (at n : ℕ) → bytes_from memory at (suc n) ≡ bytes_from memory at n ++ slice_index memory (at + n) ∷ []
unfolding bytes_from
bytes_next memory at zero = let e : at ≡ at + 0 = omega arith in ap (λ a. slice_index memory a ∷ []) e
bytes_next memory at (suc n) =
    let e : at + 1 + n ≡ at + suc n = omega arith in
    ap (λ l. slice_index memory at ∷ l) (bytes_next memory (at + 1) n
    ∙ ap (λ a. bytes_from memory (at + 1) n ++ slice_index memory a ∷ []) e)

-- A byte is written after those that were read.
pub byte_read : (memory bytes : List ℕ) (at n b : ℕ) → n < length bytes → b ≡ slice_index memory (at + n)
    → take n bytes ≡ bytes_from memory at n → take (n + 1) (set bytes n b) ≡ bytes_from memory at (n + 1)
byte_read memory bytes at n b lt is so_far =
    ap (λ k. take k (set bytes n b)) (add-one n) ∙ take-suc-set bytes n b lt ∙ ap (λ l. l ++ b ∷ []) so_far
    ∙ ap (λ x. bytes_from memory at n ++ x ∷ []) is ∙ sym (bytes_next memory at n) ∙ ap (bytes_from memory at) (sym (add-one n))
