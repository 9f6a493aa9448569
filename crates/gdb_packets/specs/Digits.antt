-- Hexadecimal digits as they are read: numbers and bytes.
use Rattle.std.specs.Prelude.{ℕ, ◌+◌, ◌-◌, ◌*◌, nat_le, nat_lt, Bool, if◌then◌else◌, ◌&&◌, ◌||◌, List, [], ◌∷◌, length, take, drop, not, Option, Some, None}
use Rattle.std.specs.List.{position_or_len}
use Rattle.std.specs.Str.Parse.{digits_value}

-- whether a byte lies between two others
abbrev pub is_between : ℕ → ℕ → ℕ → Bool
is_between low high b = nat_le low b && nat_le b high

-- a hexadecimal digit, in either case
abbrev pub is_hexadecimal : ℕ → Bool
is_hexadecimal b = is_between 48 57 b || is_between 97 102 b || is_between 65 70 b

-- the value of a hexadecimal digit
abbrev pub value_in : ℕ → Option ℕ
value_in b =
    if nat_le 48 b && nat_le b 57 then Some (b - 48)
    else if nat_le 97 b && nat_le b 102 then Some (b - 87)
    else if nat_le 65 b && nat_le b 70 then Some (b - 55)
    else None

-- the number of two digits, the higher one first
abbrev pub two_digits : Option ℕ → Option ℕ → Option ℕ
two_digits (Some high) (Some low) = Some (16 * high + low)
two_digits (Some high) None = None
two_digits None low = None

-- the byte that two digits write
abbrev pub byte_of : ℕ → ℕ → Option ℕ
byte_of high low = two_digits (value_in high) (value_in low)

-- a byte before others, if there are any
abbrev pub in_front : Option ℕ → Option (List ℕ) → Option (List ℕ)
in_front (Some b) (Some bytes) = Some (b ∷ bytes)
in_front (Some b) None = None
in_front None bytes = None

-- the bytes that digits write, two digits a byte
abbrev pub bytes_of : List ℕ → Option (List ℕ)
bytes_of [] = Some []
bytes_of (high ∷ []) = None
bytes_of (high ∷ low ∷ digits) = in_front (byte_of high low) (bytes_of digits)

-- the number that digits write, and the bytes after them, if there is a digit and the number has 32 bits
abbrev pub number_and_rest : List ℕ → List ℕ → Option (ℕ × List ℕ)
number_and_rest digits rest =
    if nat_lt 0 (length digits) && nat_lt (digits_value 16 digits) 4294967296 then Some (digits_value 16 digits, rest) else None

-- whether a byte ends the digits of a number
abbrev pub ends_number : ℕ → Bool
ends_number b = not (is_hexadecimal b)

-- the number with which bytes begin: that of the digits up to the first byte that is none
abbrev pub number_in : List ℕ → Option (ℕ × List ℕ)
number_in bytes =
    number_and_rest (take (position_or_len ends_number bytes) bytes) (drop (position_or_len ends_number bytes) bytes)
