-- How many bytes a text stands for.
use Rattle.std.proofs.Common.{◌≡◌, ℕ, ◌+◌, true, false, List, [], ◌∷◌, length, Option, Some, None, ◌++◌, append_assoc, refl, sym, ap, ◌∙◌}
use Rattle.std.proofs.Common.{arith}
use Rattle.std.specs.Prelude.{is_some, unwrap_or}
use Rattle.asm_syntax.specs.Texts.{byte_before}

-- what follows a byte stands for bytes too
pub rest_is_text : (b : ℕ) (all rest : Option (List ℕ)) → all ≡ byte_before (Some b) rest → is_some all ≡ true → is_some rest ≡ true
rest_is_text b all None is some =
    let none : is_some all ≡ false = ap (λ (o : Option (List ℕ)). is_some o) is in
    cc
rest_is_text b all (Some bytes) is some = refl

-- and for one byte less
pub length-text : (b : ℕ) (all rest : Option (List ℕ)) → all ≡ byte_before (Some b) rest → is_some all ≡ true
    → length (unwrap_or all []) ≡ 1 + length (unwrap_or rest [])
length-text b all None is some =
    let none : is_some all ≡ false = ap (λ (o : Option (List ℕ)). is_some o) is in
    cc
length-text b all (Some bytes) is some = ap (λ (o : Option (List ℕ)). length (unwrap_or o [])) is ∙ omega arith

-- the bytes of a text are its first and those of the rest
pub text-cons : (b : ℕ) (all rest : Option (List ℕ)) → all ≡ byte_before (Some b) rest → is_some all ≡ true
    → unwrap_or all [] ≡ b ∷ unwrap_or rest []
text-cons b all None is some =
    let none : is_some all ≡ false = ap (λ (o : Option (List ℕ)). is_some o) is in
    cc
text-cons b all (Some bytes) is some = ap (λ (o : Option (List ℕ)). unwrap_or o []) is

-- one byte is appended
pub one-appended : (first all front new rest : List ℕ) (b : ℕ) → first ≡ front ++ all → all ≡ b ∷ rest → new ≡ front ++ b ∷ []
    → first ≡ new ++ rest
one-appended first all front new rest b so_far is then =
    so_far ∙ ap (λ (l : List ℕ). front ++ l) is ∙ sym (append_assoc front (b ∷ []) rest) ∙ ap (λ (l : List ℕ). l ++ rest) (sym then)
