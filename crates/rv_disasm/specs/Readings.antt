-- What the line of a word says to the assembler.
use Rattle.std.specs.Prelude.{◌≡◌, ℕ, ◌+◌, ◌%◌, ◌<◌, ◌≤◌, Bool, false, List, [], ◌∷◌, ◌++◌, Option, Some, None}
use Rattle.xinu_model.specs.Isa.Instructions.{Form, FormJ, FormB, imm_j, imm_b}
use Rattle.rv_isa.specs.Table.{Seen}
use Rattle.asm_syntax.specs.Statements.{Line, line_of, with_label, word_bytes}
use Rattle.rv_asm.specs.Assembly.{bytes_at}
use Rattle.rv_asm.specs.Faults.{fault_of, is_astray, is_double}
use Rattle.rv_asm.specs.Layouts.{Labels, Layout, is_code, size_at}
use Rattle.rv_disasm.specs.Disassembly.{disassembly, is_written, moved, row_seen}
use Rattle.rv_disasm.specs.OperandTexts.{label_of}

-- whether a word that has this row is written as an instruction
abbrev pub is_written_by : Option Seen → ℕ → Bool
is_written_by None word = false
is_written_by (Some row) word = is_written row.form word

-- whether the line of a word is an instruction
abbrev pub is_instruction : ℕ → Bool
is_instruction word = is_written_by (row_seen word) word

-- how far a branch or a jump of this form goes, as a word
abbrev pub offset_by : Form → ℕ → Option ℕ
offset_by FormJ word = Some (imm_j word)
offset_by FormB word = Some (imm_b word)
offset_by form word = None

abbrev pub offset_of_row : Option Seen → ℕ → Option ℕ
offset_of_row None word = None
offset_of_row (Some row) word = offset_by row.form word

-- how far a branch or a jump goes, as a word; other words go nowhere
abbrev pub offset_of : ℕ → Option ℕ
offset_of word = offset_of_row (row_seen word) word

-- the label of the address that is this offset away, if there is one, has that address
abbrev pub LeadsTo : Option ℕ → ℕ → Labels → Type 0
LeadsTo None at labels = Unit {0}
LeadsTo (Some offset) at labels = labels (label_of (moved at offset)) ≡ Some (moved at offset)

-- the labels give the address that a word branches or jumps to, if it does, to the label that is named after it
abbrev pub Leads : ℕ → ℕ → Labels → Type 0
Leads word at labels = LeadsTo (offset_of word) at labels

-- a branch or a jump from an address in RAM goes to one in RAM, or to its end
abbrev pub LandsBy : Option ℕ → ℕ → Type 0
LandsBy None at = Unit {0}
LandsBy (Some offset) at = (at < 1048576) × (moved at offset ≤ 1048576)

-- where a word branches or jumps to, if it does, is in RAM
abbrev pub Lands : ℕ → ℕ → Type 0
Lands word at = LandsBy (offset_of word) at

-- What the line of a word at an address says to the assembler. It has no label; it is an instruction if the word can be written as one;
-- its bytes are those of the word, so four; at a multiple of 4 in RAM it has no fault, also with labels before it that are new; and the
-- label that it names isn't too far away.
pub record SaysWord (word at : ℕ) (line : Line) : Type 0 where
  pub unlabelled : line.labels ≡ []
  pub instruction : is_code line.statement ≡ is_instruction word
  pub bytes : (labels : Labels) → Leads word at labels → bytes_at labels at line.statement ≡ word_bytes word
  pub size : size_at at line.statement ≡ 4
  pub sound : (labels : Labels) (names : List (List ℕ)) (k : ℕ) (s : Layout) → Leads word at labels → is_double names s.at s.labels ≡ false
      → s.at ≡ at → at % 4 ≡ 0 → at + 4 ≤ 1048576
      → fault_of labels k (record { labels = names; statement = line.statement }) s ≡ None
  pub near : (labels : Labels) (place end : ℕ) → Leads word at labels → Lands word at
      → is_astray labels place end at line.statement ≡ false

-- the line that is printed for a word says that word
abbrev pub IsReadBack : ℕ → ℕ → Type 0
IsReadBack word at = SaysWord word at (line_of (disassembly word at))

-- a text with a label before it, which the address gives, is the line of the text with that label
abbrev pub IsLabelled : ℕ → List ℕ → Type 0
IsLabelled at text = line_of (label_of at ++ 58 ∷ 32 ∷ [] ++ text) ≡ with_label (label_of at) (line_of text)
