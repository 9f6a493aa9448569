-- The lines of a text, and the tokens of a line.
use Rattle.std.specs.Prelude.{ℕ, ◌==◌, nat_lt, Bool, if◌then◌else◌, ◌||◌, List, [], ◌∷◌, length}
use Rattle.std.specs.List.{slice_split, filter}

-- a line without the carriage return before its line feed
abbrev pub without_return : List ℕ → List ℕ
without_return [] = []
without_return (b ∷ []) = if b == 13 then [] else b ∷ []
without_return (b ∷ c ∷ line) = b ∷ without_return (c ∷ line)

-- the lines, given what is between the line feeds: what comes after the last line feed is a line unless it is empty
abbrev pub whole_lines : List (List ℕ) → List (List ℕ)
whole_lines [] = []
whole_lines ([] ∷ []) = []
whole_lines ((b ∷ line) ∷ []) = (b ∷ line) ∷ []
whole_lines (line ∷ next ∷ lines) = without_return line ∷ whole_lines (next ∷ lines)

-- the lines of a text
abbrev pub lines_of : List ℕ → List (List ℕ)
lines_of text = whole_lines (slice_split (λ b. b == 10) text)

-- a blank is a space or a tab
abbrev pub is_blank : ℕ → Bool
is_blank b = (b == 32) || (b == 9)

-- a token has a byte at least
abbrev pub is_token : List ℕ → Bool
is_token bytes = nat_lt 0 (length bytes)

-- the tokens of a line: what is between its blanks
abbrev pub tokens_of : List ℕ → List (List ℕ)
tokens_of line = filter is_token (slice_split is_blank line)
