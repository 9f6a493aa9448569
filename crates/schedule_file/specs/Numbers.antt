-- The numbers that tokens stand for: counts in decimal, and bytes in hexadecimal.
use Rattle.std.specs.Prelude.{ℕ, ◌+◌, ◌-◌, ◌*◌, nat_le, Bool, if◌then◌else◌, ◌&&◌, List, [], ◌∷◌, length, Option, Some, None}
use Rattle.std.specs.List.{list_all}
use Rattle.std.specs.Str.Parse.{digits_value}

-- the most events of a schedule
abbrev pub most_events : ℕ
most_events = 1000000000

-- a decimal digit
abbrev pub is_digit : ℕ → Bool
is_digit b = nat_le 48 b && nat_le b 57

-- a count: one to ten decimal digits with a value from 1 to the most events
abbrev pub count_written : List ℕ → Option ℕ
count_written digits =
    if nat_le 1 (length digits)
    && (nat_le (length digits) 10
    && (list_all is_digit digits && (nat_le 1 (digits_value 10 digits) && nat_le (digits_value 10 digits) most_events)))
    then Some (digits_value 10 digits)
    else None

-- the count, if it is the one token
abbrev pub one_count : List (List ℕ) → Option ℕ
one_count [] = None
one_count (token ∷ []) = count_written token
one_count (token ∷ next ∷ tokens) = None

-- the value of a hexadecimal digit, in lower or upper case
abbrev pub hex_value : ℕ → Option ℕ
hex_value b =
    if nat_le 48 b && nat_le b 57 then Some (b - 48)
    else if nat_le 97 b && nat_le b 102 then Some (b - 87)
    else if nat_le 65 b && nat_le b 70 then Some (b - 55)
    else None

-- the number of two hexadecimal digits
abbrev pub two_digits : Option ℕ → Option ℕ → Option ℕ
two_digits (Some high) (Some low) = Some (16 * high + low)
two_digits (Some high) None = None
two_digits None low = None

-- the byte that a token of two hexadecimal digits stands for
abbrev pub byte_in : List ℕ → Option ℕ
byte_in [] = None
byte_in (high ∷ []) = None
byte_in (high ∷ low ∷ []) = two_digits (hex_value high) (hex_value low)
byte_in (high ∷ low ∷ b ∷ token) = None

-- a byte before others, if there are any
abbrev pub in_front : Option ℕ → Option (List ℕ) → Option (List ℕ)
in_front (Some b) (Some bytes) = Some (b ∷ bytes)
in_front (Some b) None = None
in_front None bytes = None

-- the bytes that tokens stand for, a byte a token
abbrev pub bytes_in : List (List ℕ) → Option (List ℕ)
bytes_in [] = Some []
bytes_in (token ∷ tokens) = in_front (byte_in token) (bytes_in tokens)

-- what is typed on one line: 1 to 64 bytes
abbrev pub typed_in : List (List ℕ) → Option (List ℕ)
typed_in tokens = if nat_le 1 (length tokens) && nat_le (length tokens) 64 then bytes_in tokens else None
