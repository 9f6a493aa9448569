-- What the value of an option has to be, by the kind that its row names: one that takes none has nothing to be.
use Rattle.std.specs.Prelude.{◌==◌, ◌-◌, ◌&&◌, ℕ, Bool, true, false, nat_lt, nat_le, if◌then◌else◌, [], ◌∷◌, length, Option, Some, None, option_and_then}
use Rattle.std.specs.List.{list_all, before_first, after_first, position_or_len}
use Rattle.std.specs.Char.{is_ascii_digit}
use Rattle.std.specs.Option.{option_map_or}
use Rattle.std.specs.Str.Parse.{digits_value}
use Rattle.command_line.specs.Reading.{Text}
use Rattle.command_words.specs.declared.value_kinds.Kind.{Kind}
use Rattle.command_words.specs.declared.value_kinds.Kind.TheVariants.{File, Number, Span, Title, Flag}

-- the number that one to ten decimal digits give
abbrev pub number_in : Text → Option ℕ
number_in digits = if list_all is_ascii_digit digits && (nat_lt 0 (length digits) && nat_le (length digits) 10)
    then Some (digits_value 10 digits) else None

-- the byte `.`
abbrev pub is_dot : ℕ → Bool
is_dot b = b == 46

-- what follows a dot
abbrev pub behind_dot : Text → Option Text
behind_dot [] = None
behind_dot (x ∷ xs) = if is_dot x then Some xs else None

-- what stands before the first dot, and after it, if a dot is there
abbrev pub parts_at_dot : Text → Option (Text × Text)
parts_at_dot value = if nat_lt (position_or_len is_dot value) (length value)
    then Some (before_first is_dot value, after_first is_dot value) else None

-- two numbers, the first and the last
abbrev pub both : Option ℕ → Option ℕ → Option (ℕ × ℕ)
both (Some first) (Some last) = Some (first, last)
both (Some first) None = None
both None last = None

-- the numbers of a value `A..B`
abbrev pub span_in : Text → Option (ℕ × ℕ)
span_in value =
    option_and_then (λ p. option_and_then (λ last. both (number_in p.0) (number_in last)) (behind_dot p.1)) (parts_at_dot value)

-- whether a number is in a range
abbrev pub is_within : ℕ → ℕ → ℕ → Bool
is_within least most n = nat_le least n && nat_le n most

-- whether the numbers of a value `A..B` are at least 1 and at most some last one, the first isn't above the second, and there are at most so
-- many from the one to the other
abbrev pub is_span : ℕ → ℕ → ℕ → ℕ → Bool
is_span greatest most first last = nat_le 1 first && (nat_le first last && (nat_le last greatest && nat_lt (last - first) most))

-- whether a value is one of a kind: a name that isn't empty, a number in a range, `A..B`, or a text of at most so many bytes; an option that takes
-- no value has none that could be another
abbrev pub is_value : Kind → Text → Bool
is_value File value = nat_lt 0 (length value)
is_value (Number least most) value = option_map_or (is_within least most) (number_in value) false
is_value (Span greatest most) value = option_map_or (λ p. is_span greatest most p.0 p.1) (span_in value) false
is_value (Title most) value = nat_lt 0 (length value) && nat_le (length value) most
is_value Flag value = true
