-- The last byte of a line, and the line without it.
use Rattle.std.proofs.Common.{◌≡◌, ◌∙◌, ℕ, suc, List, [], ◌∷◌, ◌++◌, length, take, Option, Some, None, refl, sym, ap, arith}
use Rattle.std.proofs.lemmas.List.{length-append}
use Rattle.std.specs.Option.{option_to_list}
use Rattle.std.specs.Prelude.{IfSome}
use Rattle.xinu_model.specs.Console.Rows.{last_or, without_last}

-- the byte after these is the last
pub last_is : (d b : ℕ) (l : List ℕ) → last_or d (l ++ b ∷ []) ≡ b
last_is d b [] = refl
last_is d b (x ∷ l) = last_is x b l

taken : (l : List ℕ) (b : ℕ) → take (length l) (l ++ b ∷ []) ≡ l
taken [] b = refl
taken (x ∷ l) b = ap (λ m. x ∷ m) (taken l b)

-- and without it these are left
pub without_is : (b : ℕ) (l : List ℕ) → without_last (l ++ b ∷ []) ≡ l
without_is b [] = refl
without_is b (x ∷ l) =
    let e = length-append l (b ∷ []) in
    let n : length (l ++ b ∷ []) ≡ suc (length l) = omega (arith, e) in
    ap (λ k. take k (x ∷ l ++ b ∷ [])) n ∙ ap (λ m. x ∷ m) (taken l b)

-- What leaves a line is its last byte.
pub popped_last : (line left : List ℕ) (o : Option ℕ) → line ≡ left ++ option_to_list o → IfSome o (λ b. b ≡ last_or 0 line)
popped_last line left None e = tt
popped_last line left (Some b) e = sym (ap (last_or 0) e ∙ last_is 0 b left)
