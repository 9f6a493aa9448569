-- The listing of a text: what each line puts where.
use Rattle.std.specs.Prelude.{ℕ, ◌+◌, ◌/◌, ◌%◌, Bool, if◌then◌else◌, List, [], ◌∷◌, ◌++◌, codes, length, ◌==◌}
use Rattle.std.specs.Fmt.{decimal}
use Rattle.std.specs.List.{flat_map}
use Rattle.asm_syntax.specs.Statements.{Line}
use Rattle.xinu_base.specs.Hexadecimal.{hex_byte, hex_of}
use Rattle.rv_asm.specs.Assembly.{bytes_at, lines_in}
use Rattle.rv_asm.specs.Layouts.{Labels, Layout, is_code, start, after, after_all}

-- what a line puts: its number, the address, whether they are instructions, and the bytes
pub record Row : Type 0 where
  pub line : ℕ
  pub at : ℕ
  pub code : Bool
  pub bytes : List ℕ

-- what a line puts, given the labels and what the lines before it have set
abbrev pub row : Labels → ℕ → Line → Layout → Row
row labels k line s =
    record { line = k; at = s.at; code = is_code line.statement; bytes = bytes_at labels s.at line.statement }

-- what each line puts; the lines are numbered from k on
abbrev pub rows : Labels → ℕ → List Line → Layout → List Row
rows labels k [] s = []
rows labels k (line ∷ lines) s = row labels k line s ∷ rows labels (k + 1) lines (after line s)

-- the eight digits of a word
abbrev pub word_digits : ℕ → List ℕ
word_digits n = hex_of (n / 16777216 % 256 ∷ n / 65536 % 256 ∷ n / 256 % 256 ∷ n % 256 ∷ [])

-- bytes in their order, each behind a blank
abbrev pub bytes_text : List ℕ → List ℕ
bytes_text [] = []
bytes_text (b ∷ bytes) = 32 ∷ hex_byte b ++ bytes_text bytes

-- words, each behind a blank and with its highest byte, which lies last, first; bytes that are left in their order
abbrev pub words_text : List ℕ → List ℕ
words_text (a ∷ b ∷ c ∷ d ∷ bytes) = 32 ∷ hex_of (d ∷ c ∷ b ∷ a ∷ []) ++ words_text bytes
words_text bytes = bytes_text bytes

-- the content of a row: instructions as words, other content as bytes
abbrev pub content_text : Bool → List ℕ → List ℕ
content_text code bytes = if code then words_text bytes else bytes_text bytes

-- the text of a row: the number of the line, the address and the content; nothing of a line that puts nothing
unfoldable pub row_text : Row → List ℕ
row_text r =
    if length r.bytes == 0 then []
    else decimal r.line ++ codes " " ++ word_digits r.at ++ content_text r.code r.bytes ++ codes "\n"

-- what each line of a text puts
unfoldable pub listed : List ℕ → List Row
listed text = rows (after_all (lines_in text) start).labels 1 (lines_in text) start

-- the listing of a text
abbrev pub listing : List ℕ → List ℕ
listing text = flat_map row_text (listed text)
