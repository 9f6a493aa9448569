-- The instruction that a word is, and which instructions have a word.
use Rattle.std.specs.Prelude.{◌≡◌, ℕ, ◌==◌, ◌%◌, Bool, true, ◌&&◌, nat_lt, int_le, ℤ, pos, negsuc, Option, None, Some}
use Rattle.std.specs.Int.{w32, cast_unsigned}
use Rattle.xinu_model.specs.Isa.Instructions as definition
use Rattle.xinu_model.specs.Isa.Instructions.{Name, Form, Row, Fields, fields, row_of, rows}
use Rattle.xinu_model.specs.Words.{signed}
use Rattle.rv_isa.specs.RowFields.{row_by, funct3_of, funct7_of}
use Rattle.rv_isa.specs.declared.instr.Instr.{Instr}
use Rattle.rv_isa.specs.declared.instr.Instr.TheVariants.{Lui, Auipc, Jal, Jalr, Beq, Bne, Blt, Bge, Bltu, Bgeu, Lb, Lh, Lw, Lbu, Lhu, Sb, Sh, Sw, Addi, Slti, Sltiu, Xori, Ori, Andi, Slli, Srli, Srai, Add, Sub, Sll, Slt, Sltu, Xor, Srl, Sra, Or, And, Fence, Ecall, Ebreak}

-- the instruction of this name with these registers and this immediate
abbrev pub instr_with : Name → ℕ → ℕ → ℕ → ℤ → Instr
instr_with definition.Lui rd rs1 rs2 imm = Lui rd imm
instr_with definition.Auipc rd rs1 rs2 imm = Auipc rd imm
instr_with definition.Jal rd rs1 rs2 imm = Jal rd imm
instr_with definition.Jalr rd rs1 rs2 imm = Jalr rd rs1 imm
instr_with definition.Beq rd rs1 rs2 imm = Beq rs1 rs2 imm
instr_with definition.Bne rd rs1 rs2 imm = Bne rs1 rs2 imm
instr_with definition.Blt rd rs1 rs2 imm = Blt rs1 rs2 imm
instr_with definition.Bge rd rs1 rs2 imm = Bge rs1 rs2 imm
instr_with definition.Bltu rd rs1 rs2 imm = Bltu rs1 rs2 imm
instr_with definition.Bgeu rd rs1 rs2 imm = Bgeu rs1 rs2 imm
instr_with definition.Lb rd rs1 rs2 imm = Lb rd rs1 imm
instr_with definition.Lh rd rs1 rs2 imm = Lh rd rs1 imm
instr_with definition.Lw rd rs1 rs2 imm = Lw rd rs1 imm
instr_with definition.Lbu rd rs1 rs2 imm = Lbu rd rs1 imm
instr_with definition.Lhu rd rs1 rs2 imm = Lhu rd rs1 imm
instr_with definition.Sb rd rs1 rs2 imm = Sb rs1 rs2 imm
instr_with definition.Sh rd rs1 rs2 imm = Sh rs1 rs2 imm
instr_with definition.Sw rd rs1 rs2 imm = Sw rs1 rs2 imm
instr_with definition.Addi rd rs1 rs2 imm = Addi rd rs1 imm
instr_with definition.Slti rd rs1 rs2 imm = Slti rd rs1 imm
instr_with definition.Sltiu rd rs1 rs2 imm = Sltiu rd rs1 imm
instr_with definition.Xori rd rs1 rs2 imm = Xori rd rs1 imm
instr_with definition.Ori rd rs1 rs2 imm = Ori rd rs1 imm
instr_with definition.Andi rd rs1 rs2 imm = Andi rd rs1 imm
instr_with definition.Slli rd rs1 rs2 imm = Slli rd rs1 imm
instr_with definition.Srli rd rs1 rs2 imm = Srli rd rs1 imm
instr_with definition.Srai rd rs1 rs2 imm = Srai rd rs1 imm
instr_with definition.Add rd rs1 rs2 imm = Add rd rs1 rs2
instr_with definition.Sub rd rs1 rs2 imm = Sub rd rs1 rs2
instr_with definition.Sll rd rs1 rs2 imm = Sll rd rs1 rs2
instr_with definition.Slt rd rs1 rs2 imm = Slt rd rs1 rs2
instr_with definition.Sltu rd rs1 rs2 imm = Sltu rd rs1 rs2
instr_with definition.Xor rd rs1 rs2 imm = Xor rd rs1 rs2
instr_with definition.Srl rd rs1 rs2 imm = Srl rd rs1 rs2
instr_with definition.Sra rd rs1 rs2 imm = Sra rd rs1 rs2
instr_with definition.Or rd rs1 rs2 imm = Or rd rs1 rs2
instr_with definition.And rd rs1 rs2 imm = And rd rs1 rs2
instr_with definition.Fence rd rs1 rs2 imm = Fence
instr_with definition.Ecall rd rs1 rs2 imm = Ecall
instr_with definition.Ebreak rd rs1 rs2 imm = Ebreak

-- the instruction of this name with these fields
abbrev pub instr_of : Name → Fields → Instr
instr_of name f = instr_with name f.rd f.rs1 f.rs2 (signed f.imm)

-- the instruction of a word that has this row
abbrev pub decoded : Option Row → ℕ → Option Instr
decoded None word = None
decoded (Some row) word = Some (instr_of row.name (fields row.form word))

-- the instruction that a word is
abbrev pub instruction_of : ℕ → Option Instr
instruction_of word = decoded (row_of word) word

-- the word is the instruction, with these registers and this immediate, of the row that has this opcode, funct3 and funct7, if it has this form
abbrev pub IsWordOf : Form → ℕ → ℕ → ℕ → ℕ → ℕ → ℕ → ℕ → ℤ → Type 0
IsWordOf form word opcode funct3 funct7 rd rs1 rs2 imm =
    (row : Row) → row_by rows opcode funct3 funct7 word ≡ Some row → row.form ≡ form → instruction_of word ≡ Some (instr_with row.name rd rs1 rs2 imm)

-- the instruction of a word with this opcode
abbrev pub decoded_by : ℕ → ℕ → Option Instr
decoded_by opcode word = decoded (row_by rows opcode (funct3_of word) (funct7_of word) word) word

-- whether an immediate lies between two bounds
abbrev pub is_within : ℤ → ℤ → ℤ → Bool
is_within low imm high = int_le low imm && int_le imm high

-- whether an immediate is a multiple
abbrev pub is_multiple : ℤ → ℕ → Bool
is_multiple imm n = cast_unsigned w32 imm % n == 0

-- whether a register has this number
abbrev pub is_register : ℕ → Bool
is_register n = nat_lt n 32

-- form U: the multiples of 4096
abbrev pub is_valid_u : ℕ → ℤ → Bool
is_valid_u rd imm = is_register rd && is_multiple imm 4096

-- form J: the even numbers from -1048576 to 1048574
abbrev pub is_valid_j : ℕ → ℤ → Bool
is_valid_j rd imm = is_register rd && is_within (negsuc 1048575) imm (pos 1048574) && is_multiple imm 2

-- form I: the numbers from -2048 to 2047
abbrev pub is_valid_i : ℕ → ℕ → ℤ → Bool
is_valid_i rd rs1 imm = is_register rd && is_register rs1 && is_within (negsuc 2047) imm (pos 2047)

-- form B: the even numbers from -4096 to 4094
abbrev pub is_valid_b : ℕ → ℕ → ℤ → Bool
is_valid_b rs1 rs2 imm =
    is_register rs1 && is_register rs2 && is_within (negsuc 4095) imm (pos 4094) && is_multiple imm 2

-- form S: the numbers from -2048 to 2047
abbrev pub is_valid_s : ℕ → ℕ → ℤ → Bool
is_valid_s rs1 rs2 imm = is_register rs1 && is_register rs2 && is_within (negsuc 2047) imm (pos 2047)

-- form Shift: the numbers from 0 to 31
abbrev pub is_valid_shift : ℕ → ℕ → ℤ → Bool
is_valid_shift rd rs1 imm = is_register rd && is_register rs1 && is_within (pos 0) imm (pos 31)

-- form R: no immediate
abbrev pub is_valid_r : ℕ → ℕ → ℕ → Bool
is_valid_r rd rs1 rs2 = is_register rd && is_register rs1 && is_register rs2

-- whether the fields are in the ranges of the instruction's form
abbrev pub is_valid : Instr → Bool
is_valid (Lui rd imm) = is_valid_u rd imm
is_valid (Auipc rd imm) = is_valid_u rd imm
is_valid (Jal rd imm) = is_valid_j rd imm
is_valid (Jalr rd rs1 imm) = is_valid_i rd rs1 imm
is_valid (Beq rs1 rs2 imm) = is_valid_b rs1 rs2 imm
is_valid (Bne rs1 rs2 imm) = is_valid_b rs1 rs2 imm
is_valid (Blt rs1 rs2 imm) = is_valid_b rs1 rs2 imm
is_valid (Bge rs1 rs2 imm) = is_valid_b rs1 rs2 imm
is_valid (Bltu rs1 rs2 imm) = is_valid_b rs1 rs2 imm
is_valid (Bgeu rs1 rs2 imm) = is_valid_b rs1 rs2 imm
is_valid (Lb rd rs1 imm) = is_valid_i rd rs1 imm
is_valid (Lh rd rs1 imm) = is_valid_i rd rs1 imm
is_valid (Lw rd rs1 imm) = is_valid_i rd rs1 imm
is_valid (Lbu rd rs1 imm) = is_valid_i rd rs1 imm
is_valid (Lhu rd rs1 imm) = is_valid_i rd rs1 imm
is_valid (Sb rs1 rs2 imm) = is_valid_s rs1 rs2 imm
is_valid (Sh rs1 rs2 imm) = is_valid_s rs1 rs2 imm
is_valid (Sw rs1 rs2 imm) = is_valid_s rs1 rs2 imm
is_valid (Addi rd rs1 imm) = is_valid_i rd rs1 imm
is_valid (Slti rd rs1 imm) = is_valid_i rd rs1 imm
is_valid (Sltiu rd rs1 imm) = is_valid_i rd rs1 imm
is_valid (Xori rd rs1 imm) = is_valid_i rd rs1 imm
is_valid (Ori rd rs1 imm) = is_valid_i rd rs1 imm
is_valid (Andi rd rs1 imm) = is_valid_i rd rs1 imm
is_valid (Slli rd rs1 imm) = is_valid_shift rd rs1 imm
is_valid (Srli rd rs1 imm) = is_valid_shift rd rs1 imm
is_valid (Srai rd rs1 imm) = is_valid_shift rd rs1 imm
is_valid (Add rd rs1 rs2) = is_valid_r rd rs1 rs2
is_valid (Sub rd rs1 rs2) = is_valid_r rd rs1 rs2
is_valid (Sll rd rs1 rs2) = is_valid_r rd rs1 rs2
is_valid (Slt rd rs1 rs2) = is_valid_r rd rs1 rs2
is_valid (Sltu rd rs1 rs2) = is_valid_r rd rs1 rs2
is_valid (Xor rd rs1 rs2) = is_valid_r rd rs1 rs2
is_valid (Srl rd rs1 rs2) = is_valid_r rd rs1 rs2
is_valid (Sra rd rs1 rs2) = is_valid_r rd rs1 rs2
is_valid (Or rd rs1 rs2) = is_valid_r rd rs1 rs2
is_valid (And rd rs1 rs2) = is_valid_r rd rs1 rs2
is_valid Fence = true
is_valid Ecall = true
is_valid Ebreak = true
