-- The command `soak`, and which number its argument gives.
use Rattle.std.specs.Prelude.{◌&&◌, ℕ, Bool, List, [], ◌∷◌, Option, Some, None, length, nat_lt, nat_le, if◌then◌else◌}
use Rattle.std.specs.List.{list_all}
use Rattle.std.specs.Char.{is_ascii_digit}
use Rattle.std.specs.Str.Parse.{digits_value}
use Rattle.command_line.specs.Reading.{OptionRow, Taken, Text}

abbrev pub soak_options : List OptionRow
soak_options = []

-- one to ten decimal digits, whose value is at most 4294967295
abbrev pub is_seed : Text → Bool
is_seed digits = list_all is_ascii_digit digits && (nat_lt 0 (length digits) && (nat_le (length digits) 10
    && nat_le (digits_value 10 digits) 4294967295))

-- `soak N`
abbrev pub soak_of : List Text → Option ℕ
soak_of (digits ∷ []) = if is_seed digits then Some (digits_value 10 digits) else None
soak_of args = None

abbrev pub soak_from : Taken → Option ℕ
soak_from t = soak_of t.positional
