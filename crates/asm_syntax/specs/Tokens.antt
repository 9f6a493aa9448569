-- The tokens of a line: words, colons, commas, quoted texts, and the blanks between them.
use Rattle.std.specs.Prelude.{ℕ, ◌==◌, Bool, if◌then◌else◌, ◌||◌, List, [], ◌∷◌}
use Rattle.text_lines.specs.Lines.{is_blank}

-- a token of a line
pub data Token : Type 0 where
  Blank : Token
  Colon : Token
  Comma : Token
  Word : List ℕ → Token
  Quoted : List ℕ → Token
  Unclosed : Token

-- where a byte is: outside quotes, between them, or after a backslash between them
pub data Quoting : Type 0 where
  Outside : Quoting
  Inside : Quoting
  Escaped : Quoting

-- a byte that ends a word: a blank, the start of a comment, a quote, a comma or a colon
abbrev pub ends_word : ℕ → Bool
ends_word b = is_blank b || (b == 35) || (b == 34) || (b == 44) || (b == 58)

-- a byte of a word before other tokens: it joins the word that they begin with
abbrev pub joined : ℕ → List Token → List Token
joined b [] = Word (b ∷ []) ∷ []
joined b (Word w ∷ ts) = Word (b ∷ w) ∷ ts
joined b (t ∷ ts) = Word (b ∷ []) ∷ t ∷ ts

-- a byte of a quoted text before the rest of it
abbrev pub quoted : ℕ → List Token → List Token
quoted b [] = []
quoted b (Quoted t ∷ ts) = Quoted (b ∷ t) ∷ ts
quoted b (t ∷ ts) = t ∷ ts

-- the tokens of what is left of a line: a `#` outside quotes begins a comment, and quotes have to be closed
abbrev pub tokens_from : Quoting → List ℕ → List Token
tokens_from Outside [] = []
tokens_from Inside [] = Unclosed ∷ []
tokens_from Escaped [] = Unclosed ∷ []
tokens_from Outside (b ∷ line) =
    if b == 35 then [] else
    if b == 34 then tokens_from Inside line else
    if b == 44 then Comma ∷ tokens_from Outside line else
    if b == 58 then Colon ∷ tokens_from Outside line else
    if is_blank b then Blank ∷ tokens_from Outside line
    else joined b (tokens_from Outside line)
tokens_from Inside (b ∷ line) =
    if b == 34 then Quoted [] ∷ tokens_from Outside line
    else if b == 92 then quoted b (tokens_from Escaped line)
    else quoted b (tokens_from Inside line)
tokens_from Escaped (b ∷ line) = quoted b (tokens_from Inside line)

-- the tokens of a line
abbrev pub tokens_of : List ℕ → List Token
tokens_of line = tokens_from Outside line

-- tokens without the blanks
abbrev pub solid : List Token → List Token
solid [] = []
solid (Blank ∷ ts) = solid ts
solid (t ∷ ts) = t ∷ solid ts
