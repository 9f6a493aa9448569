-- The beginning of a line in the code.
use Rattle.std.specs.Prelude.{Bool, true, false, List, [], ◌∷◌}
use Rattle.asm_syntax.specs.Numbers.{is_name}
use Rattle.asm_syntax.specs.Statements.{can_name}
use Rattle.asm_syntax.specs.Tokens.{Token, Blank, Colon, Word}

-- tokens without the blanks before them
abbrev pub skip : List Token → List Token
skip [] = []
skip (Blank ∷ ts) = skip ts
skip (t ∷ ts) = t ∷ ts

-- whether a token is a name
abbrev pub is_named : Token → Bool
is_named (Word w) = is_name w
is_named t = false

-- whether a token is a word that can name an instruction or a directive
abbrev pub is_statement : Token → Bool
is_statement (Word w) = can_name w
is_statement t = false

-- whether a token is a blank
abbrev pub is_blank_token : Token → Bool
is_blank_token Blank = true
is_blank_token t = false

-- whether tokens begin with a colon
abbrev pub starts_with_colon : List Token → Bool
starts_with_colon [] = false
starts_with_colon (Colon ∷ ts) = true
starts_with_colon (t ∷ ts) = false
