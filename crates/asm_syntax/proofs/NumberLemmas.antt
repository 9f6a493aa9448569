-- One more digit of a number that is read as at most 4294967296.
use Rattle.std.proofs.Common.{◌≡◌, ℕ, ◌+◌, ◌*◌, ◌<◌, List, length, take, get_or, sym, ap, ◌∙◌, arith}
use Rattle.std.specs.Prelude.{min}
use Rattle.std.specs.Char.{digit_value}
use Rattle.std.specs.Str.Parse.{digits_value}
use Rattle.std.proofs.lemmas.Int.Digits.{digits_value_more}

clip_decimal : (a n d : ℕ) → n ≡ min 4294967296 a → min (n * 10 + d) 4294967296 ≡ min 4294967296 (a * 10 + d)
clip_decimal a n d is = omega arith

clip_hexadecimal : (a n d : ℕ) → n ≡ min 4294967296 a → min (n * 16 + d) 4294967296 ≡ min 4294967296 (a * 16 + d)
clip_hexadecimal a n d is = omega arith

pub decimal_more : (digits : List ℕ) (i n d next : ℕ) → i < length digits → n ≡ min 4294967296 (digits_value 10 (take i digits))
    → d ≡ digit_value (get_or digits i 0) → next ≡ min (n * 10 + d) 4294967296
    → next ≡ min 4294967296 (digits_value 10 (take (i + 1) digits))
decimal_more digits i n d next within is digit then =
    then ∙ clip_decimal (digits_value 10 (take i digits)) n d is
    ∙ ap (λ (k : ℕ). min 4294967296 (digits_value 10 (take i digits) * 10 + k)) digit
    ∙ ap (λ (k : ℕ). min 4294967296 k) (sym (digits_value_more 10 digits i within))

pub hexadecimal_more : (digits : List ℕ) (i n d next : ℕ) → i < length digits → n ≡ min 4294967296 (digits_value 16 (take i digits))
    → d ≡ digit_value (get_or digits i 0) → next ≡ min (n * 16 + d) 4294967296
    → next ≡ min 4294967296 (digits_value 16 (take (i + 1) digits))
hexadecimal_more digits i n d next within is digit then =
    then ∙ clip_hexadecimal (digits_value 16 (take i digits)) n d is
    ∙ ap (λ (k : ℕ). min 4294967296 (digits_value 16 (take i digits) * 16 + k)) digit
    ∙ ap (λ (k : ℕ). min 4294967296 k) (sym (digits_value_more 16 digits i within))
