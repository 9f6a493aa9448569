-- The first four operands, one more at a time.
use Rattle.std.proofs.Common.{◌≡◌, ℕ, zero, suc, List, [], ◌∷◌, ◌++◌, length, take, Option, Some, None, refl, sym, ap, ◌∙◌, arith}
use Rattle.std.proofs.Common.{append_assoc}
use Rattle.std.proofs.lemmas.List.{take_all, take-append-le}
use Rattle.asm_syntax.specs.Tokens.{Token, Blank, Colon, Comma, Word, Quoted, Unclosed}
use Rattle.asm_syntax.specs.Operands.{Operand, before, operand_of, separated}
use Rattle.asm_syntax.specs.CodeOperands.{first_four}

-- operands before those that are left, if these are operands
abbrev pub appended : List Operand → Option (List Operand) → Option (List Operand)
appended front None = None
appended front (Some rest) = Some (front ++ rest)

-- what is beyond the first n makes no difference to the first n
take_again : (n : ℕ) (xs ys : List Operand) → take n (take n xs ++ ys) ≡ take n (xs ++ ys)
take_again zero xs ys = refl
take_again (suc n) [] ys = refl
take_again (suc n) (x ∷ xs) ys = ap (λ (l : List Operand). x ∷ l) (take_again n xs ys)

-- one more operand is kept
pub first_four-more : (front next : List Operand) (operand : Operand) (rest : Option (List Operand)) → next ≡ take 4 (front ++ operand ∷ [])
    → first_four (appended front (before (Some operand) rest)) ≡ first_four (appended next rest)
first_four-more front next operand None kept = refl
first_four-more front next operand (Some rest) kept =
    ap (λ (l : List Operand). Some (take 4 l)) (sym (append_assoc front (operand ∷ []) rest))
    ∙ ap (λ (l : List Operand). Some l) (sym (take_again 4 (front ++ operand ∷ []) rest))
    ∙ ap (λ (l : List Operand). Some (take 4 (l ++ rest))) (sym kept)

-- four operands are kept as they are
pub first_four-full : (front rest : List Operand) → length front ≡ 4 → front ≡ take 4 (front ++ rest)
first_four-full front rest four = sym (take-append-le 4 front rest (omega arith) ∙ take_all 4 front (omega arith))

-- a token that is no operand
pub separated-none : (t : Token) (ts : List Token) → operand_of t ≡ None → separated (t ∷ ts) ≡ None
separated-none t [] none = rw none refl
separated-none t (Blank ∷ ts) none = refl
separated-none t (Colon ∷ ts) none = refl
separated-none t (Comma ∷ ts) none = rw none refl
separated-none t (Word w ∷ ts) none = refl
separated-none t (Quoted q ∷ ts) none = refl
separated-none t (Unclosed ∷ ts) none = refl
