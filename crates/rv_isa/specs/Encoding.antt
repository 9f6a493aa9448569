-- The word of an instruction: the fixed bits of its row, and its fields in their places (RISC-V unprivileged manual, chapter "RV32I Base
-- Integer Instruction Set", section "Immediate Encoding Variants").
use Rattle.std.specs.Prelude.{◌≡◌, ℕ, ◌+◌, ◌*◌, ◌/◌, ◌%◌, ℤ, pos}
use Rattle.std.specs.Int.{w32, cast_unsigned}
use Rattle.xinu_model.specs.Isa.Instructions.{Form, FormU, FormJ, FormI, FormB, FormS, FormShift, FormR, FormFence, FormWhole, Row}
use Rattle.rv_isa.specs.Words.{instr_with}
use Rattle.rv_isa.specs.declared.instr.Instr.{Instr}
use Rattle.rv_isa.specs.declared.instr.Instr.TheVariants.{Lui, Auipc, Jal, Jalr, Beq, Bne, Blt, Bge, Bltu, Bgeu, Lb, Lh, Lw, Lbu, Lhu, Sb, Sh, Sw, Addi, Slti, Sltiu, Xori, Ori, Andi, Slli, Srli, Srai, Add, Sub, Sll, Slt, Sltu, Xor, Srl, Sra, Or, And, Fence, Ecall, Ebreak}

-- the fields of a form in their places: the registers, and the immediate as a word in two's complement
abbrev pub placed : Form → ℕ → ℕ → ℕ → ℕ → ℕ
placed FormU rd rs1 rs2 imm = rd * 0x80 + imm / 0x1000 * 0x1000
placed FormJ rd rs1 rs2 imm =
    rd * 0x80 + imm / 0x100000 % 2 * 0x80000000 + imm / 2 % 0x400 * 0x200000 + imm / 0x800 % 2 * 0x100000 + imm / 0x1000 % 0x100 * 0x1000
placed FormI rd rs1 rs2 imm = rd * 0x80 + rs1 * 0x8000 + imm % 0x1000 * 0x100000
placed FormB rd rs1 rs2 imm =
    rs1 * 0x8000 + rs2 * 0x100000 + imm / 0x1000 % 2 * 0x80000000 + imm / 0x20 % 0x40 * 0x2000000 + imm / 2 % 0x10 * 0x100 + imm / 0x800 % 2 * 0x80
placed FormS rd rs1 rs2 imm = rs1 * 0x8000 + rs2 * 0x100000 + imm / 0x20 % 0x80 * 0x2000000 + imm % 0x20 * 0x80
placed FormShift rd rs1 rs2 imm = rd * 0x80 + rs1 * 0x8000 + imm % 0x20 * 0x100000
placed FormR rd rs1 rs2 imm = rd * 0x80 + rs1 * 0x8000 + rs2 * 0x100000
placed FormFence rd rs1 rs2 imm = 0x0ff00000
placed FormWhole rd rs1 rs2 imm = 0

-- the greatest fixed bits of a form: all bits that are in no field
abbrev pub fixed : Form → ℕ
fixed FormU = 0x7f
fixed FormJ = 0x7f
fixed FormI = 0x707f
fixed FormB = 0x707f
fixed FormS = 0x707f
fixed FormShift = 0xfe00707f
fixed FormR = 0xfe00707f
fixed FormFence = 0x707f
fixed FormWhole = 0xffffffff

-- the word with these fixed bits, registers and immediate
abbrev pub word_with : ℕ → Form → ℕ → ℕ → ℕ → ℤ → ℕ
word_with bits form rd rs1 rs2 imm = bits + placed form rd rs1 rs2 (cast_unsigned w32 imm)

-- the word of an instruction; that of a fence orders all accesses
abbrev pub word_of : Instr → ℕ
word_of (Lui rd imm) = word_with 0x37 FormU rd 0 0 imm
word_of (Auipc rd imm) = word_with 0x17 FormU rd 0 0 imm
word_of (Jal rd imm) = word_with 0x6f FormJ rd 0 0 imm
word_of (Jalr rd rs1 imm) = word_with 0x67 FormI rd rs1 0 imm
word_of (Beq rs1 rs2 imm) = word_with 0x63 FormB 0 rs1 rs2 imm
word_of (Bne rs1 rs2 imm) = word_with 0x1063 FormB 0 rs1 rs2 imm
word_of (Blt rs1 rs2 imm) = word_with 0x4063 FormB 0 rs1 rs2 imm
word_of (Bge rs1 rs2 imm) = word_with 0x5063 FormB 0 rs1 rs2 imm
word_of (Bltu rs1 rs2 imm) = word_with 0x6063 FormB 0 rs1 rs2 imm
word_of (Bgeu rs1 rs2 imm) = word_with 0x7063 FormB 0 rs1 rs2 imm
word_of (Lb rd rs1 imm) = word_with 0x3 FormI rd rs1 0 imm
word_of (Lh rd rs1 imm) = word_with 0x1003 FormI rd rs1 0 imm
word_of (Lw rd rs1 imm) = word_with 0x2003 FormI rd rs1 0 imm
word_of (Lbu rd rs1 imm) = word_with 0x4003 FormI rd rs1 0 imm
word_of (Lhu rd rs1 imm) = word_with 0x5003 FormI rd rs1 0 imm
word_of (Sb rs1 rs2 imm) = word_with 0x23 FormS 0 rs1 rs2 imm
word_of (Sh rs1 rs2 imm) = word_with 0x1023 FormS 0 rs1 rs2 imm
word_of (Sw rs1 rs2 imm) = word_with 0x2023 FormS 0 rs1 rs2 imm
word_of (Addi rd rs1 imm) = word_with 0x13 FormI rd rs1 0 imm
word_of (Slti rd rs1 imm) = word_with 0x2013 FormI rd rs1 0 imm
word_of (Sltiu rd rs1 imm) = word_with 0x3013 FormI rd rs1 0 imm
word_of (Xori rd rs1 imm) = word_with 0x4013 FormI rd rs1 0 imm
word_of (Ori rd rs1 imm) = word_with 0x6013 FormI rd rs1 0 imm
word_of (Andi rd rs1 imm) = word_with 0x7013 FormI rd rs1 0 imm
word_of (Slli rd rs1 imm) = word_with 0x1013 FormShift rd rs1 0 imm
word_of (Srli rd rs1 imm) = word_with 0x5013 FormShift rd rs1 0 imm
word_of (Srai rd rs1 imm) = word_with 0x40005013 FormShift rd rs1 0 imm
word_of (Add rd rs1 rs2) = word_with 0x33 FormR rd rs1 rs2 (pos 0)
word_of (Sub rd rs1 rs2) = word_with 0x40000033 FormR rd rs1 rs2 (pos 0)
word_of (Sll rd rs1 rs2) = word_with 0x1033 FormR rd rs1 rs2 (pos 0)
word_of (Slt rd rs1 rs2) = word_with 0x2033 FormR rd rs1 rs2 (pos 0)
word_of (Sltu rd rs1 rs2) = word_with 0x3033 FormR rd rs1 rs2 (pos 0)
word_of (Xor rd rs1 rs2) = word_with 0x4033 FormR rd rs1 rs2 (pos 0)
word_of (Srl rd rs1 rs2) = word_with 0x5033 FormR rd rs1 rs2 (pos 0)
word_of (Sra rd rs1 rs2) = word_with 0x40005033 FormR rd rs1 rs2 (pos 0)
word_of (Or rd rs1 rs2) = word_with 0x6033 FormR rd rs1 rs2 (pos 0)
word_of (And rd rs1 rs2) = word_with 0x7033 FormR rd rs1 rs2 (pos 0)
word_of Fence = word_with 0xf FormFence 0 0 0 (pos 0)
word_of Ecall = word_with 0x73 FormWhole 0 0 0 (pos 0)
word_of Ebreak = word_with 0x100073 FormWhole 0 0 0 (pos 0)

-- the words of this row's instruction are the row's bits and the fields in their places
abbrev pub HasWords : Row → Type 0
HasWords row = (rd rs1 rs2 : ℕ) (imm : ℤ) → word_of (instr_with row.name rd rs1 rs2 imm) ≡ word_with row.bits row.form rd rs1 rs2 imm
