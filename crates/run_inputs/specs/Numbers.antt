-- Numbers in the options of a program.
use Rattle.std.specs.Prelude.{ℕ, ◌&&◌, Bool, nat_le, nat_lt, if◌then◌else◌, List, length, Option, Some, None}
use Rattle.std.specs.List.{list_all}
use Rattle.std.specs.Char.{is_ascii_digit}
use Rattle.std.specs.Str.Parse.{digits_value}

-- whether all bytes are decimal digits
abbrev pub are_digits : List ℕ → Bool
are_digits bytes = list_all is_ascii_digit bytes

-- one to ten decimal digits, whose value is from 1 to a bound
abbrev pub is_number : List ℕ → ℕ → Bool
is_number digits most =
    are_digits digits && (nat_lt 0 (length digits) && (nat_le (length digits) 10 && (nat_le 1 (digits_value 10 digits) && nat_le (digits_value 10 digits) most)))

-- the number that they give
abbrev pub number : List ℕ → ℕ → Option ℕ
number digits most = if is_number digits most then Some (digits_value 10 digits) else None
