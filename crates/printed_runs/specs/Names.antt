-- The names of processes in the lines of tables, as texts.
use Rattle.std.specs.Prelude.{ℕ, ◌+◌, ◌-◌, ◌*◌, ◌==◌, ◌&&◌, ◌||◌, nat_le, Bool, true, false, not, if◌then◌else◌, List, [], ◌∷◌, ◌++◌, codes, drop}
use Rattle.std.specs.List.{list_any}
use Rattle.std.specs.Str.{bytes_eq}
use Rattle.printed_runs.specs.Notes.{first_word}
use Rattle.text_lines.specs.Lines.{tokens_of}

-- whether a byte is a hexadecimal digit in lower case
abbrev pub is_digit : ℕ → Bool
is_digit b = (nat_le 48 b && nat_le b 57) || (nat_le 97 b && nat_le b 102)

-- the value of such a digit
abbrev pub digit_value : ℕ → ℕ
digit_value b = if nat_le b 57 then b - 48 else b - 87

-- the byte of two digits
abbrev pub byte_of : ℕ → ℕ → ℕ
byte_of high low = 16 * digit_value high + digit_value low

-- whether a byte of a name can be shown: a printable character of ASCII, but for the quotation mark
abbrev pub is_shown : ℕ → Bool
is_shown b = nat_le 32 b && (nat_le b 126 && not (b == 34))

-- whether two characters are the digits of such a byte
abbrev pub is_pair : ℕ → ℕ → Bool
is_pair high low = is_digit high && (is_digit low && is_shown (byte_of high low))

-- whether digits are those of a name that can be shown
unfoldable pub is_name : List ℕ → Bool
is_name [] = true
is_name (b ∷ []) = false
is_name (high ∷ low ∷ digits) = is_pair high low && is_name digits

-- the name that digits give
unfoldable pub name_of : List ℕ → List ℕ
name_of [] = []
name_of (b ∷ []) = []
name_of (high ∷ low ∷ digits) = byte_of high low ∷ name_of digits

-- the digits of the name in the words of a line of the process table
abbrev pub name_word : List (List ℕ) → List ℕ
name_word words = first_word (drop 6 words)

-- what is added to a line with these words: the name in quotation marks, if the line tells one that can be shown
abbrev pub name_text : List (List ℕ) → List ℕ
name_text words =
    if bytes_eq (first_word words) (codes "proc") && is_name (name_word words) then codes " \"" ++ name_of (name_word words) ++ codes "\"" else []

-- whether a line has a quotation mark
abbrev pub has_mark : List ℕ → Bool
has_mark line = list_any (λ b. b == 34) line

-- A line as it is shown, with the name as a text after it. One with a quotation mark, which tables don't have, is shown behind another one.
abbrev pub named_line : List ℕ → List ℕ
named_line line = if has_mark line then 34 ∷ line else line ++ name_text (tokens_of line)
