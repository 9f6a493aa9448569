-- A text of at most five decimal digits that is read as no number is empty.
use Rattle.std.proofs.Common.{◌≡◌, ◌==◌, ◌<◌, ◌≤◌, ◌^◌, ℕ, Bool, true, false, ◌&&◌, nat_lt, nat_le, List, [], ◌∷◌, length, refl, sym, subst, arith, lit<}
use Rattle.std.specs.List.{list_all}
use Rattle.std.specs.Char.{is_ascii_digit, digit_value}
use Rattle.std.specs.Str.Parse.{AllDigits, IsNumeral, digits_value, without_leading_plus}
use Rattle.std.proofs.lemmas.Bool.{and_parts, leb-true}
use Rattle.std.proofs.lemmas.Bool.Decides.{nat_tests}
use Rattle.std.proofs.lemmas.Int.Digits.{digits_value-lt}
use Rattle.std.proofs.Math.Nat.{pow-le-pow_right}
use Rattle.command_line.specs.DiskArgs.{is_block_count}
use Rattle.command_line.specs.SoakArgs.{is_seed}

pub digit_range : (c : ℕ) → is_ascii_digit c ≡ true → (48 ≤ c) × (c ≤ 57)
digit_range c e = let two = and_parts _ _ e in (leb-true 48 c two.0, leb-true c 57 two.1)

pub digit_below : (c : ℕ) → 48 ≤ c → c ≤ 57 → digit_value c < 10
digit_below c low high =
    let above : nat_lt c 48 ≡ false = grind (arith, nat_tests) in
    let below : nat_lt c 58 ≡ true = grind (arith, nat_tests) in
    rw (above, below) (omega arith)

pub all_digits : (ds : List ℕ) → list_all is_ascii_digit ds ≡ true → AllDigits 10 ds
all_digits [] e = tt
all_digits (c ∷ cs) e =
    let two = and_parts (is_ascii_digit c) (list_all is_ascii_digit cs) e in
    let range = digit_range c two.0 in
    (digit_below c range.0 range.1, all_digits cs two.1)

pub no_plus : (c : ℕ) (cs : List ℕ) → 48 ≤ c → without_leading_plus (c ∷ cs) ≡ c ∷ cs
no_plus c cs low = let other : (c == 43) ≡ false = grind (arith, nat_tests) in rw other refl

pub no_count : (ds : List ℕ) → list_all is_ascii_digit ds ≡ true → length ds ≤ 5
    → (IsNumeral 10 (without_leading_plus ds) × (digits_value 10 (without_leading_plus ds) < 2 ^ 32) → ⊥) → is_block_count ds ≡ false
no_count [] e few none = refl
no_count (c ∷ cs) e few none =
    let first = digit_range c (and_parts (is_ascii_digit c) (list_all is_ascii_digit cs) e).0 in
    let all = all_digits (c ∷ cs) e in
    let value = digits_value-lt 10 (c ∷ cs) all in
    let most : 10 ^ length (c ∷ cs) ≤ 10 ^ 5 = pow-le-pow_right (lit< tt) few in
    let P : List ℕ → Type 0 = λ ds. IsNumeral 10 ds × (digits_value 10 ds < 2 ^ 32) in
    absurd (none (subst P (sym (no_plus c cs first.0)) ((omega arith, all), omega (arith, value, most))))

-- a test that fails makes all fail
last_fails : (a b c d : Bool) → d ≡ false → (a && (b && (c && d))) ≡ false
last_fails true true true d fails = fails
last_fails true true false d fails = refl
last_fails true false c d fails = refl
last_fails false b c d fails = refl

too_large : (n : ℕ) → (n < 2 ^ 32 → ⊥) → nat_le n 4294967295 ≡ false
too_large n large = by_test (nat_le n 4294967295) refl
  where
    by_test : (b : Bool) → nat_le n 4294967295 ≡ b → b ≡ false
    by_test true is = let most = leb-true n 4294967295 is in absurd (large (omega (arith, most)))
    by_test false is = refl

-- a text of decimal digits that is read as no number below 2^32 is no number of a soak test
pub no_seed : (ds : List ℕ) → list_all is_ascii_digit ds ≡ true
    → (IsNumeral 10 (without_leading_plus ds) × (digits_value 10 (without_leading_plus ds) < 2 ^ 32) → ⊥) → is_seed ds ≡ false
no_seed [] e none = refl
no_seed (c ∷ cs) e none =
    let first = digit_range c (and_parts (is_ascii_digit c) (list_all is_ascii_digit cs) e).0 in
    let all = all_digits (c ∷ cs) e in
    let P : List ℕ → Type 0 = λ ds. IsNumeral 10 ds × (digits_value 10 ds < 2 ^ 32) in
    last_fails (list_all is_ascii_digit (c ∷ cs)) (nat_lt 0 (length (c ∷ cs))) (nat_le (length (c ∷ cs)) 10) (nat_le (digits_value 10 (c ∷ cs)) 4294967295)
    (too_large (digits_value 10 (c ∷ cs)) (λ small. none (subst P (sym (no_plus c cs first.0)) ((omega arith, all), small))))
