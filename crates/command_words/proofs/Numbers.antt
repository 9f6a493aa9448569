-- A text of at most ten decimal digits that is read as no number is empty.
use Rattle.std.proofs.Common.{◌≡◌, ◌<◌, ◌≤◌, ◌^◌, ℕ, true, List, [], ◌∷◌, None, length, refl, sym, subst, arith, lit<}
use Rattle.std.specs.List.{list_all}
use Rattle.std.specs.Char.{is_ascii_digit}
use Rattle.std.specs.Str.Parse.{IsNumeral, digits_value, without_leading_plus}
use Rattle.std.proofs.lemmas.Bool.{and_parts}
use Rattle.std.proofs.lemmas.Int.Digits.{digits_value-lt}
use Rattle.std.proofs.Math.Nat.{pow-le-pow_right}
use Rattle.command_line.proofs.Digits.{all_digits, digit_range, no_plus}
use Rattle.command_words.specs.ValueKinds.{number_in}

-- a text of at most ten decimal digits that is read as no number below 2^64 is empty
pub no_number : (ds : List ℕ) → list_all is_ascii_digit ds ≡ true → length ds ≤ 10
    → (IsNumeral 10 (without_leading_plus ds) × (digits_value 10 (without_leading_plus ds) < 2 ^ 64) → ⊥) → None ≡ number_in ds
no_number [] e few none = refl
no_number (c ∷ cs) e few none =
    let first = digit_range c (and_parts (is_ascii_digit c) (list_all is_ascii_digit cs) e).0 in
    let all = all_digits (c ∷ cs) e in
    let value = digits_value-lt 10 (c ∷ cs) all in
    let most : 10 ^ length (c ∷ cs) ≤ 10 ^ 10 = pow-le-pow_right (lit< tt) few in
    let P : List ℕ → Type 0 = λ ds. IsNumeral 10 ds × (digits_value 10 ds < 2 ^ 64) in
    absurd (none (subst P (sym (no_plus c cs first.0)) ((omega arith, all), omega (arith, value, most))))
