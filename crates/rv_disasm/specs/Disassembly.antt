-- A word as a line of assembler.
use Rattle.std.specs.Prelude.{ℕ, ◌+◌, ◌/◌, ◌%◌, ◌==◌, Bool, true, pos, if◌then◌else◌, List, [], ◌∷◌, ◌++◌, Option, Some, None, codes}
use Rattle.xinu_model.specs.Isa.Instructions.{Form, FormU, FormJ, FormI, FormB, FormS, FormShift, FormR, FormFence, FormWhole, Row}
use Rattle.xinu_model.specs.Isa.Instructions.{row_of, rd_of, rs1_of, rs2_of, imm_j, imm_i, imm_b, imm_s}
use Rattle.xinu_model.specs.Words.{signed}
use Rattle.rv_isa.specs.Table.{Seen, defined}
use Rattle.rv_disasm.specs.OperandTexts.{listed, hex_word}
use Rattle.rv_disasm.specs.declared.operands.Operand.{Operand}
use Rattle.rv_disasm.specs.declared.operands.Operand.TheVariants.{Register, Number, Offset, Target}

-- the address that is an offset away from another
abbrev pub moved : ℕ → ℕ → ℕ
moved at offset = (at + offset) % 4294967296

-- The operands of a word of this form, at an address. Of form I the instructions that compute have a number, and those that load or jump
-- a number before a register. A branch and a jump name the address that they go to.
abbrev pub operands : Form → ℕ → ℕ → ℕ → List Operand
operands FormU bits word at = Register (rd_of word) ∷ Number (pos (word / 4096)) ∷ []
operands FormJ bits word at = Register (rd_of word) ∷ Target (moved at (imm_j word)) ∷ []
operands FormI bits word at =
    if bits % 128 == 0x13 then Register (rd_of word) ∷ Register (rs1_of word) ∷ Number (signed (imm_i word)) ∷ []
    else Register (rd_of word) ∷ Offset (signed (imm_i word)) (rs1_of word) ∷ []
operands FormB bits word at = Register (rs1_of word) ∷ Register (rs2_of word) ∷ Target (moved at (imm_b word)) ∷ []
operands FormS bits word at = Register (rs2_of word) ∷ Offset (signed (imm_s word)) (rs1_of word) ∷ []
operands FormShift bits word at = Register (rd_of word) ∷ Register (rs1_of word) ∷ Number (pos (rs2_of word)) ∷ []
operands FormR bits word at = Register (rd_of word) ∷ Register (rs1_of word) ∷ Register (rs2_of word) ∷ []
operands FormFence bits word at = []
operands FormWhole bits word at = []

-- whether the assembler can write a word of this form as an instruction: of the fences it writes one alone
abbrev pub is_written : Form → ℕ → Bool
is_written FormFence word = word == 0x0ff0000f
is_written form word = true

-- a mnemonic, and after a blank its operands
abbrev pub with_operands : List ℕ → List Operand → List ℕ
with_operands mnemonic [] = mnemonic
with_operands mnemonic (o ∷ os) = mnemonic ++ 32 ∷ [] ++ listed (o ∷ os)

-- a word as data
abbrev pub as_data : ℕ → List ℕ
as_data word = codes ".word 0x" ++ hex_word word

-- a word that has this row, at an address: an instruction if it can be written as one, or else data
abbrev pub written : Option Seen → ℕ → ℕ → List ℕ
written None word at = as_data word
written (Some row) word at =
    if is_written row.form word then with_operands row.mnemonic (operands row.form row.bits word at) else as_data word

-- a row, with its mnemonic as text
abbrev pub with_mnemonic : Option Row → Option Seen
with_mnemonic None = None
with_mnemonic (Some row) = Some (defined row)

-- the row whose bits a word has
unfoldable pub row_seen : ℕ → Option Seen
row_seen word = with_mnemonic (row_of word)

-- the line that is printed for a word at an address
abbrev pub disassembly : ℕ → ℕ → List ℕ
disassembly word at = written (row_seen word) word at
