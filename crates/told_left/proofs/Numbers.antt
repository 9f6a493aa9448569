-- Numbers after blanks, one after another.
use Rattle.std.proofs.Common.{◌≡◌, ◌∙◌, ◌+◌, ◌<◌, ℕ, suc, List, ◌∷◌, ◌++◌, drop, get_or, length, sym, ap, append_assoc, add-one}
use Rattle.std.proofs.Math.Seq.{drop-cons}
use Rattle.told_left.specs.Calls.{after_blanks}
use Rattle.xinu_model.specs.Text.{signed_field}

-- the numbers from one on
numbers_from : (numbers : List ℕ) (i n : ℕ) → i < length numbers → n ≡ get_or numbers i n
    → after_blanks (drop i numbers) ≡ (32 ∷ signed_field n) ++ after_blanks (drop (i + 1) numbers)
numbers_from numbers i n within is =
    ap after_blanks (drop-cons numbers i n within) ∙ ap (λ (m : ℕ). (32 ∷ signed_field m) ++ after_blanks (drop (suc i) numbers)) (sym is)
    ∙ ap (λ (k : ℕ). (32 ∷ signed_field n) ++ after_blanks (drop k numbers)) (sym (add-one i))

-- one number more
pub one_number : (told next all numbers : List ℕ) (i n : ℕ) → i < length numbers → n ≡ get_or numbers i n → next ≡ told ++ (32 ∷ signed_field n)
    → told ++ after_blanks (drop i numbers) ≡ all → next ++ after_blanks (drop (i + 1) numbers) ≡ all
one_number told next all numbers i n within is new so =
    ap (λ (t : List ℕ). t ++ after_blanks (drop (i + 1) numbers)) new
    ∙ append_assoc told (32 ∷ signed_field n) (after_blanks (drop (i + 1) numbers))
    ∙ ap (λ (l : List ℕ). told ++ l) (sym (numbers_from numbers i n within is))
    ∙ so
