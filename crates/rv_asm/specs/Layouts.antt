-- How the statements of a text lie one after another: their sizes, the addresses of the labels, and the fields of the header.
use Rattle.std.specs.Prelude.{ℕ, min, ◌+◌, ◌-◌, ◌%◌, ◌*◌, nat_lt, Bool, true, false, if◌then◌else◌, ◌||◌, List, [], ◌∷◌, length, Option}
use Rattle.std.specs.Prelude.{Some, None}
use Rattle.std.specs.Str.{bytes_eq}
use Rattle.asm_syntax.specs.Statements.{Statement, Code, Branch, JumpTo, AddressOf, Bytes, WordAt, Zeros, Align, Place, Entry, Priority}
use Rattle.asm_syntax.specs.Statements.{Stack, Line}

-- how many bytes a statement puts at an address; it doesn't depend on the labels
abbrev pub size_at : ℕ → Statement → ℕ
size_at at (Code words) = 4 * length words
size_at at (Branch bits rs1 rs2 l) = 4
size_at at (JumpTo rd l) = 4
size_at at (AddressOf rd l) = 8
size_at at (Bytes bytes) = length bytes
size_at at (WordAt l) = 4
size_at at (Zeros n) = n
size_at at Align = (4 - at % 4) % 4
size_at at statement = 0

-- whether a statement puts instructions
abbrev pub is_code : Statement → Bool
is_code (Code words) = true
is_code (Branch bits rs1 rs2 l) = true
is_code (JumpTo rd l) = true
is_code (AddressOf rd l) = true
is_code statement = false

-- whether a statement puts content, though it may be of no bytes
abbrev pub is_content : Statement → Bool
is_content (Bytes bytes) = true
is_content (WordAt l) = true
is_content (Zeros n) = true
is_content Align = true
is_content statement = is_code statement

-- the label that a statement uses
abbrev pub used_label : Statement → Option (List ℕ)
used_label (Branch bits rs1 rs2 l) = Some l
used_label (JumpTo rd l) = Some l
used_label (AddressOf rd l) = Some l
used_label (WordAt l) = Some l
used_label (Entry l) = Some l
used_label statement = None

-- labels: the address of each name that is one
abbrev pub Labels : Type 0
Labels = List ℕ → Option ℕ

-- what is found once a name has an address too: what was found before, or else that address
abbrev pub or_address : Option ℕ → Bool → ℕ → Option ℕ
or_address (Some found) same at = Some found
or_address None same at = if same then Some at else None

-- one more label; a name keeps the address of its first place
abbrev pub labelled : List ℕ → ℕ → Labels → Labels
labelled name at labels = λ q. or_address (labels q) (bytes_eq q name) at

-- the labels of a line, one after another
abbrev pub labelled_all : List (List ℕ) → ℕ → Labels → Labels
labelled_all [] at labels = labels
labelled_all (name ∷ names) at labels = labelled_all names at (labelled name at labels)

-- what the lines so far have set: fields of the header, the labels, whether there was a label or content, and the address that comes next
pub record Layout : Type 0 where
  pub place : Option ℕ
  pub entry : Option (List ℕ)
  pub priority : Option ℕ
  pub stack : Option ℕ
  pub labels : Labels
  pub begun : Bool
  pub at : ℕ

-- before the first line
abbrev pub start : Layout
start = record { place = None; entry = None; priority = None; stack = None; labels = λ q. None; begun = false; at = 0 }

-- after the labels of a line
abbrev pub after_labels : List (List ℕ) → Layout → Layout
after_labels names s = record {
  place = s.place;
  entry = s.entry;
  priority = s.priority;
  stack = s.stack;
  labels = labelled_all names s.at s.labels;
  begun = s.begun || nat_lt 0 (length names);
  at = s.at;
}

-- an address; those beyond RAM, where nothing may lie, are all this one from 4294967296 on
abbrev pub clipped : ℕ → ℕ
clipped at = min at 4294967296

-- after a statement: content begins at the place, and each statement lies after the one before it
abbrev pub after_statement : Statement → Layout → Layout
after_statement (Place n) s =
    record { place = Some n; entry = s.entry; priority = s.priority; stack = s.stack; labels = s.labels; begun = s.begun; at = clipped n }
after_statement (Entry l) s =
    record { place = s.place; entry = Some l; priority = s.priority; stack = s.stack; labels = s.labels; begun = s.begun; at = s.at }
after_statement (Priority n) s =
    record { place = s.place; entry = s.entry; priority = Some n; stack = s.stack; labels = s.labels; begun = s.begun; at = s.at }
after_statement (Stack n) s =
    record { place = s.place; entry = s.entry; priority = s.priority; stack = Some n; labels = s.labels; begun = s.begun; at = s.at }
after_statement statement s = record {
  place = s.place;
  entry = s.entry;
  priority = s.priority;
  stack = s.stack;
  labels = s.labels;
  begun = s.begun || is_content statement;
  at = clipped (s.at + size_at s.at statement);
}

-- after a line
abbrev pub after : Line → Layout → Layout
after line s = after_statement line.statement (after_labels line.labels s)

-- after several lines
abbrev pub after_all : List Line → Layout → Layout
after_all [] s = s
after_all (line ∷ lines) s = after_all lines (after line s)
