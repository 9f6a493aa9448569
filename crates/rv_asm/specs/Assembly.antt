-- What a text is assembled to: an image file, or its first fault.
use Rattle.std.specs.Prelude.{◌≡◌, ℕ, pos, ◌+◌, ◌-◌, ◌%◌, ◌==◌, nat_lt, Bool, true, false, ◌&&◌, ◌||◌, List, [], ◌∷◌, ◌++◌, length, map}
use Rattle.std.specs.Prelude.{replicate, Option, Some, None, is_none, unwrap_or}
use Rattle.std.specs.List.{flat_map}
use Rattle.text_lines.specs.Lines.{lines_of}
use Rattle.xinu_model.specs.Isa.Instructions.{FormB, FormJ}
use Rattle.rv_isa.specs.Encoding.{placed}
use Rattle.asm_syntax.specs.Statements.{Statement, Code, Branch, JumpTo, AddressOf, Bytes, WordAt, Zeros, Align, Line, line_of, load}
use Rattle.asm_syntax.specs.Statements.{word_of, word_bytes}
use Rattle.rv_asm.specs.Layouts.{Labels, Layout, start, after, after_all}
use Rattle.rv_asm.specs.Faults.{address, offset_to, first_fault, first_astray}
use Rattle.rv_asm.specs.declared.faults.AsmFault.{AsmFault}
use Rattle.rv_asm.specs.declared.faults.AsmFault.TheVariants.{BadLine, UnknownName, OutOfRange, DoubleLabel, NoMemory}

-- the bytes of a statement at an address, given the labels
abbrev pub bytes_at : Labels → ℕ → Statement → List ℕ
bytes_at labels at (Code words) = flat_map word_bytes words
bytes_at labels at (Branch bits rs1 rs2 l) = word_bytes (bits + placed FormB 0 rs1 rs2 (word_of (offset_to labels at l)))
bytes_at labels at (JumpTo rd l) = word_bytes (0x6f + placed FormJ rd 0 0 (word_of (offset_to labels at l)))
bytes_at labels at (AddressOf rd l) = flat_map word_bytes (load rd (word_of (pos (address labels l))))
bytes_at labels at (Bytes bytes) = bytes
bytes_at labels at (WordAt l) = word_bytes (word_of (pos (address labels l)))
bytes_at labels at (Zeros n) = replicate n 0
bytes_at labels at Align = replicate ((4 - at % 4) % 4) 0
bytes_at labels at statement = []

-- the bytes of lines, one after another
abbrev pub content : Labels → List Line → Layout → List ℕ
content labels [] s = []
content labels (line ∷ lines) s = bytes_at labels s.at line.statement ++ content labels lines (after line s)

-- the address of the entry: that of its label, or the place if none is named
abbrev pub entry_at : Labels → ℕ → Option (List ℕ) → ℕ
entry_at labels place None = place
entry_at labels place (Some name) = address labels name

-- the fields of the header of an image file
pub record Header : Type 0 where
  pub place : ℕ
  pub size : ℕ
  pub entry : ℕ
  pub priority : ℕ
  pub stack : ℕ

-- the header that the lines set, for a content of so many bytes
abbrev pub header : Layout → ℕ → Header
header s size = record {
  place = unwrap_or s.place 0;
  size = size;
  entry = entry_at s.labels (unwrap_or s.place 0) s.entry;
  priority = unwrap_or s.priority 20;
  stack = unwrap_or s.stack 4096;
}

-- the image file with this header and this content
abbrev pub image_file : Header → List ℕ → List ℕ
image_file h bytes =
    word_bytes 0x474d4958 ++ word_bytes 1 ++ word_bytes h.place ++ word_bytes h.size ++ word_bytes h.entry ++ word_bytes h.priority
    ++ word_bytes h.stack ++ bytes

-- no content, or without an entry too little for one
abbrev pub is_void : Layout → ℕ → Bool
is_void s size = (size == 0) || (is_none s.entry && nat_lt size 4)

-- what a text is assembled to
pub data Assembly : Type 0 where
  Makes : List ℕ → Assembly
  Fails : AsmFault → Assembly

-- the fault of a line by itself, or else that of an offset or an entry, or else the fault of a text without content, or else the file
abbrev pub ended : Option AsmFault → Option AsmFault → Bool → List ℕ → Assembly
ended (Some fault) astray void file = Fails fault
ended None (Some fault) void file = Fails fault
ended None None true file = Fails (BadLine 0)
ended None None false file = Makes file

-- what lines are assembled to, given what all of them set and their bytes
abbrev pub assembled_lines : List Line → Layout → List ℕ → Assembly
assembled_lines lines end bytes =
    ended (first_fault end.labels 1 lines start) (first_astray end.labels (unwrap_or end.place 0) end.at 1 lines start)
    (is_void end (length bytes))
    (image_file (header end (length bytes)) bytes)

-- the lines of a text
abbrev pub lines_in : List ℕ → List Line
lines_in text = map line_of (lines_of text)

-- what a text is assembled to
unfoldable pub assembly : List ℕ → Assembly
assembly text =
    assembled_lines (lines_in text) (after_all (lines_in text) start)
    (content (after_all (lines_in text) start).labels (lines_in text) start)

-- a fault is the one that an assembly fails with; out of memory says nothing of it
abbrev pub IsFault : AsmFault → Assembly → Type 0
IsFault (BadLine k) a = a ≡ Fails (BadLine k)
IsFault (UnknownName k) a = a ≡ Fails (UnknownName k)
IsFault (OutOfRange k) a = a ≡ Fails (OutOfRange k)
IsFault (DoubleLabel k) a = a ≡ Fails (DoubleLabel k)
IsFault NoMemory a = Unit {0}

-- a fault is that of a text
abbrev pub IsFaultOf : AsmFault → List ℕ → Type 0
IsFaultOf fault text = IsFault fault (assembly text)
