-- The bytes that quoted texts stand for.
use Rattle.std.specs.Prelude.{ℕ, ◌==◌, if◌then◌else◌, ◌||◌, List, [], ◌∷◌, Option, Some, None, unwrap_or}
use Rattle.asm_syntax.specs.Numbers.{is_between}

-- the byte that a backslash and another byte stand for
abbrev pub escape : ℕ → Option ℕ
escape b = if b == 110 then Some 10 else if b == 48 then Some 0 else if (b == 34) || (b == 92) then Some b else None

-- a byte before others, if all of them are bytes
abbrev pub byte_before : Option ℕ → Option (List ℕ) → Option (List ℕ)
byte_before (Some b) (Some bytes) = Some (b ∷ bytes)
byte_before (Some b) None = None
byte_before None bytes = None

-- a byte that stands for itself in a text: printable ASCII
abbrev pub printable : ℕ → Option ℕ
printable b = if is_between 32 126 b then Some b else None

-- the bytes that a text stands for; a backslash makes one byte of the byte after it
abbrev pub text_bytes : List ℕ → Option (List ℕ)
text_bytes [] = Some []
text_bytes (b ∷ []) = if b == 92 then None else byte_before (printable b) (Some [])
text_bytes (b ∷ c ∷ text) = if b == 92 then byte_before (escape c) (text_bytes text) else byte_before (printable b) (text_bytes (c ∷ text))

-- the bytes of a text that stands for bytes
abbrev pub bytes_of : List ℕ → List ℕ
bytes_of text = unwrap_or (text_bytes text) []
