-- Names and numbers.
use Rattle.std.specs.Prelude.{ℕ, min, ◌==◌, nat_le, nat_lt, Bool, false, if◌then◌else◌, ◌&&◌, ◌||◌, ℤ, pos, neg_ℤ, List, [], ◌∷◌, length}
use Rattle.std.specs.Prelude.{Option, Some, None}
use Rattle.std.specs.List.{list_all}
use Rattle.std.specs.Str.Parse.{digits_value}

-- whether a byte lies between two others
abbrev pub is_between : ℕ → ℕ → ℕ → Bool
is_between low high b = nat_le low b && nat_le b high

-- a letter or an underscore
abbrev pub begins_name : ℕ → Bool
begins_name b = is_between 97 122 b || is_between 65 90 b || (b == 95)

-- a decimal digit
abbrev pub is_digit : ℕ → Bool
is_digit b = is_between 48 57 b

-- a hexadecimal digit, in either case
abbrev pub is_hexadecimal : ℕ → Bool
is_hexadecimal b = is_digit b || is_between 97 102 b || is_between 65 70 b

-- a byte of a name after its first
abbrev pub is_in_name : ℕ → Bool
is_in_name b = begins_name b || is_digit b

-- a name: a letter or an underscore, and then letters, digits and underscores
abbrev pub is_name : List ℕ → Bool
is_name [] = false
is_name (b ∷ word) = begins_name b && list_all is_in_name word

-- greater than each number that may be written anywhere; a number that is greater still is read as this one
abbrev pub too_large : ℕ
too_large = 4294967296

-- the number that digits write
abbrev pub digits_in : ℕ → (ℕ → Bool) → List ℕ → Option ℕ
digits_in radix is_one digits =
    if nat_lt 0 (length digits) && list_all is_one digits then Some (min too_large (digits_value radix digits)) else None

-- a number with its sign
abbrev pub signed_as : (ℕ → ℤ) → Option ℕ → Option ℤ
signed_as sign None = None
signed_as sign (Some n) = Some (sign n)

-- decimal digits, or `0x` and hexadecimal digits
abbrev pub unsigned_in : List ℕ → Option ℤ
unsigned_in [] = None
unsigned_in (b ∷ []) = signed_as pos (digits_in 10 is_digit (b ∷ []))
unsigned_in (b ∷ c ∷ word) =
    if (b == 48) && (c == 120) then signed_as pos (digits_in 16 is_hexadecimal word)
    else signed_as pos (digits_in 10 is_digit (b ∷ c ∷ word))

-- a number, with a `-` before it if it is negative; then it is decimal
abbrev pub number_in : List ℕ → Option ℤ
number_in [] = None
number_in (b ∷ word) =
    if b == 45 then signed_as (λ n. neg_ℤ (pos n)) (digits_in 10 is_digit word) else unsigned_in (b ∷ word)
