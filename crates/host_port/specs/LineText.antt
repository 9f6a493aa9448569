-- The text of a line, as bytes.
use Rattle.std.specs.Prelude.{ℕ, List, [], ◌∷◌, ◌++◌, codes}
pub use Rattle.xinu_base.specs.Hexadecimal.{hex_digit, hex_byte, hex_of}

-- the line with a blank after it, unless it is empty
abbrev pub blanked : List ℕ → List ℕ
blanked [] = []
blanked (b ∷ line) = b ∷ line ++ 32 ∷ []

-- the line that shows a byte which the console transmitted
abbrev pub con_text : ℕ → List ℕ
con_text b = codes "con " ++ hex_byte b ++ 10 ∷ []
