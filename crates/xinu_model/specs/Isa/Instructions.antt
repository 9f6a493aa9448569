-- The instructions of RV32I as a table (RISC-V unprivileged manual, chapter "RV32I Base Integer Instruction Set" and its listing).
use Rattle.std.specs.Prelude.{ℕ, ◌+◌, ◌-◌, ◌*◌, ◌/◌, ◌%◌, ◌^◌, Bool, nat_lt, ◌==◌, if◌then◌else◌, List, [], ◌∷◌, Option, None, Some, bit_and}

-- how the fields lie in the word
pub data Form : Type 0 where
  FormU : Form
  FormJ : Form
  FormI : Form
  FormB : Form
  FormS : Form
  FormShift : Form
  FormR : Form
  FormFence : Form
  FormWhole : Form

-- the instructions, by their mnemonics
pub data Name : Type 0 where
  Lui : Name
  Auipc : Name
  Jal : Name
  Jalr : Name
  Beq : Name
  Bne : Name
  Blt : Name
  Bge : Name
  Bltu : Name
  Bgeu : Name
  Lb : Name
  Lh : Name
  Lw : Name
  Lbu : Name
  Lhu : Name
  Sb : Name
  Sh : Name
  Sw : Name
  Addi : Name
  Slti : Name
  Sltiu : Name
  Xori : Name
  Ori : Name
  Andi : Name
  Slli : Name
  Srli : Name
  Srai : Name
  Add : Name
  Sub : Name
  Sll : Name
  Slt : Name
  Sltu : Name
  Xor : Name
  Srl : Name
  Sra : Name
  Or : Name
  And : Name
  Fence : Name
  Ecall : Name
  Ebreak : Name

-- an instruction of the table: its words are those whose bits under the mask are these bits
pub record Row : Type 0 where
  pub name : Name
  pub mask : ℕ
  pub bits : ℕ
  pub form : Form

abbrev pub instruction : Name → ℕ → ℕ → Form → Row
instruction name mask bits form = record { name = name; mask = mask; bits = bits; form = form }

-- The masks: the opcode; funct3 and the opcode; funct7, funct3 and the opcode; the whole word.
abbrev pub rows : List Row
rows =
    instruction Lui 0x7f 0x37 FormU ∷
    instruction Auipc 0x7f 0x17 FormU ∷
    instruction Jal 0x7f 0x6f FormJ ∷
    instruction Jalr 0x707f 0x67 FormI ∷
    instruction Beq 0x707f 0x63 FormB ∷
    instruction Bne 0x707f 0x1063 FormB ∷
    instruction Blt 0x707f 0x4063 FormB ∷
    instruction Bge 0x707f 0x5063 FormB ∷
    instruction Bltu 0x707f 0x6063 FormB ∷
    instruction Bgeu 0x707f 0x7063 FormB ∷
    instruction Lb 0x707f 0x3 FormI ∷
    instruction Lh 0x707f 0x1003 FormI ∷
    instruction Lw 0x707f 0x2003 FormI ∷
    instruction Lbu 0x707f 0x4003 FormI ∷
    instruction Lhu 0x707f 0x5003 FormI ∷
    instruction Sb 0x707f 0x23 FormS ∷
    instruction Sh 0x707f 0x1023 FormS ∷
    instruction Sw 0x707f 0x2023 FormS ∷
    instruction Addi 0x707f 0x13 FormI ∷
    instruction Slti 0x707f 0x2013 FormI ∷
    instruction Sltiu 0x707f 0x3013 FormI ∷
    instruction Xori 0x707f 0x4013 FormI ∷
    instruction Ori 0x707f 0x6013 FormI ∷
    instruction Andi 0x707f 0x7013 FormI ∷
    instruction Slli 0xfe00707f 0x1013 FormShift ∷
    instruction Srli 0xfe00707f 0x5013 FormShift ∷
    instruction Srai 0xfe00707f 0x40005013 FormShift ∷
    instruction Add 0xfe00707f 0x33 FormR ∷
    instruction Sub 0xfe00707f 0x40000033 FormR ∷
    instruction Sll 0xfe00707f 0x1033 FormR ∷
    instruction Slt 0xfe00707f 0x2033 FormR ∷
    instruction Sltu 0xfe00707f 0x3033 FormR ∷
    instruction Xor 0xfe00707f 0x4033 FormR ∷
    instruction Srl 0xfe00707f 0x5033 FormR ∷
    instruction Sra 0xfe00707f 0x40005033 FormR ∷
    instruction Or 0xfe00707f 0x6033 FormR ∷
    instruction And 0xfe00707f 0x7033 FormR ∷
    instruction Fence 0x707f 0xf FormFence ∷
    instruction Ecall 0xffffffff 0x73 FormWhole ∷
    instruction Ebreak 0xffffffff 0x100073 FormWhole ∷
    []

-- whether a word has the bits of a row
abbrev pub has_bits : ℕ → Row → Bool
has_bits word r = bit_and word r.mask == r.bits

-- the first of these rows whose bits the word has
abbrev pub row_in : List Row → ℕ → Option Row
row_in [] word = None
row_in (r ∷ rs) word = if has_bits word r then Some r else row_in rs word

-- the row whose bits the word has
abbrev pub row_of : ℕ → Option Row
row_of word = row_in rows word

-- the bits of a word from one place on, as a number
abbrev pub bits_from : ℕ → ℕ → ℕ → ℕ
bits_from low count word = word / 2 ^ low % 2 ^ count

-- a number of some bits as a word, with the number's highest bit in all the bits above it
abbrev pub sign_extended : ℕ → ℕ → ℕ
sign_extended width n = if nat_lt n (2 ^ (width - 1)) then n else n + (2 ^ 32 - 2 ^ width)

-- the destination register
abbrev pub rd_of : ℕ → ℕ
rd_of word = bits_from 7 5 word

-- the first source register
abbrev pub rs1_of : ℕ → ℕ
rs1_of word = bits_from 15 5 word

-- the second source register
abbrev pub rs2_of : ℕ → ℕ
rs2_of word = bits_from 20 5 word

-- the immediate of form U: bits 31 to 12 in their places, and zeros below
abbrev pub imm_u : ℕ → ℕ
imm_u word = bits_from 12 20 word * 2 ^ 12

-- the immediate of form J, from its bit 20 down
abbrev pub imm_j : ℕ → ℕ
imm_j word =
    sign_extended 21 (bits_from 31 1 word * 2 ^ 20 + bits_from 12 8 word * 2 ^ 12 + bits_from 20 1 word * 2 ^ 11 + bits_from 21 10 word * 2)

-- the immediate of form I
abbrev pub imm_i : ℕ → ℕ
imm_i word = sign_extended 12 (bits_from 20 12 word)

-- the immediate of form B, from its bit 12 down
abbrev pub imm_b : ℕ → ℕ
imm_b word =
    sign_extended 13 (bits_from 31 1 word * 2 ^ 12 + bits_from 7 1 word * 2 ^ 11 + bits_from 25 6 word * 2 ^ 5 + bits_from 8 4 word * 2)

-- the immediate of form S, from its bit 11 down
abbrev pub imm_s : ℕ → ℕ
imm_s word = sign_extended 12 (bits_from 25 7 word * 2 ^ 5 + bits_from 7 5 word)

-- The fields of an instruction. The immediate is a word, in two's complement; a field that the form lacks is 0.
pub record Fields : Type 0 where
  pub rd : ℕ
  pub rs1 : ℕ
  pub rs2 : ℕ
  pub imm : ℕ

-- the fields of a word of this form
abbrev pub fields : Form → ℕ → Fields
fields FormU word = record { rd = rd_of word; rs1 = 0; rs2 = 0; imm = imm_u word }
fields FormJ word = record { rd = rd_of word; rs1 = 0; rs2 = 0; imm = imm_j word }
fields FormI word = record { rd = rd_of word; rs1 = rs1_of word; rs2 = 0; imm = imm_i word }
fields FormB word = record { rd = 0; rs1 = rs1_of word; rs2 = rs2_of word; imm = imm_b word }
fields FormS word = record { rd = 0; rs1 = rs1_of word; rs2 = rs2_of word; imm = imm_s word }
fields FormShift word = record { rd = rd_of word; rs1 = rs1_of word; rs2 = 0; imm = rs2_of word }
fields FormR word = record { rd = rd_of word; rs1 = rs1_of word; rs2 = rs2_of word; imm = 0 }
fields FormFence word = record { rd = 0; rs1 = 0; rs2 = 0; imm = 0 }
fields FormWhole word = record { rd = 0; rs1 = 0; rs2 = 0; imm = 0 }
