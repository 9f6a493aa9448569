-- Numbers of a few decimal digits.
use Rattle.std.proofs.Common.{◌≡◌, ℕ, ◌+◌, ◌-◌, ◌*◌, ◌≤◌, ◌<◌, ◌^◌, true, List, length, take, get_or, arith, rules}
use Rattle.std.specs.Int.{IsInRange}
use Rattle.std.specs.List.{list_all}
use Rattle.std.specs.Str.Parse.{digits_value}
use Rattle.std.proofs.lemmas.Int.Digits.{digits_value_more}
use Rattle.std.proofs.lemmas.Str.{digit_value_digit}
use Rattle.std.proofs.lemmas.Str.Parse.{IsDigitsTest, numerals_by_value, digits_value_short, digits_value-take-le, digit_at}
use Rattle.schedule_file.specs.Numbers.{is_digit}

-- The test is one of decimal digits.
pub tests_digits : IsDigitsTest (λ digits. list_all is_digit digits ≡ true)
tests_digits = search rules

-- each byte of a number is the character of a digit
pub is_digit_at : (digits : List ℕ) (i : ℕ) → list_all is_digit digits ≡ true → i < length digits → IsInRange 48 57 (get_or digits i 0)
is_digit_at digits i are within =
    digit_at digits i ((numerals_by_value (λ ds. list_all is_digit ds ≡ true) tests_digits).to digits are) within

-- ten digits write less than 10 ^ 10, and no first digits of them more than all
pub digits_are_few : (digits : List ℕ) (i : ℕ) → list_all is_digit digits ≡ true → length digits ≤ 10
    → digits_value 10 (take i digits) < 10000000000
digits_are_few digits i are few =
    let all : digits_value 10 digits < 10 ^ 10 =
    digits_value_short (numerals_by_value (λ ds. list_all is_digit ds ≡ true) tests_digits) digits 10 are few in
    omega (arith, digits_value-take-le 10 digits i (omega arith))

-- the number that one digit more writes
pub digits_value-next : (digits : List ℕ) (i n : ℕ) → list_all is_digit digits ≡ true → i < length digits
    → n ≡ digits_value 10 (take i digits) → n * 10 + (get_or digits i 0 - 48) ≡ digits_value 10 (take (i + 1) digits)
digits_value-next digits i n are within is =
    omega (arith, digits_value_more 10 digits i within, digit_value_digit (get_or digits i 0) (is_digit_at digits i are within))

-- ten digits less the last, and one digit more, fit in 64 bits
pub digits_value-fits : (digits : List ℕ) (i n : ℕ) → list_all is_digit digits ≡ true → length digits ≤ 10 → i < length digits
    → n ≡ digits_value 10 (take i digits) → n * 10 + (get_or digits i 0 - 48) < 18446744073709551616
digits_value-fits digits i n are few within is =
    omega (arith, digits_are_few digits (i + 1) are few, digits_value-next digits i n are within is)
