-- The word that is put together for each form is one of the row that its opcode, funct3 and funct7 name, with the fields that were put in.
use Rattle.std.proofs.Common.{◌≡◌, ℕ, ◌+◌, ◌*◌, ◌/◌, ◌%◌, ◌^◌, ◌<◌, true, ◌&&◌, ℤ, pos, negsuc, Some, refl, ap, ◌∙◌, arith}
use Rattle.std.specs.Int.{w32, cast_unsigned, cast_signed}
use Rattle.std.proofs.lemmas.Int.{to_z-of_z}
use Rattle.std.proofs.lemmas.Bool.{ltb-true, eqb-true, and_parts}
use mir.Val.{SFits}
use Rattle.xinu_model.specs.Isa.Instructions.{Row, rows, FormU, FormJ, FormI, FormB, FormS, FormShift, FormR}
use Rattle.xinu_model.specs.Words.{signed}
use Rattle.rv_isa.specs.RowFields.{row_by, funct3_of, funct7_of}
use Rattle.rv_isa.specs.Words.{instruction_of, instr_with, is_register, is_within, is_multiple, is_valid_u, is_valid_j, is_valid_i, is_valid_b, is_valid_s, is_valid_shift, is_valid_r}
use Rattle.rv_isa.proofs.Placed.{placed}
use Rattle.rv_isa.proofs.Immediates.{low_12, low_13, low_21, low_5}

-- a signed number comes back from its bits
pub same_bits : (z : ℤ) (u : ℕ) → SFits w32 z → u ≡ cast_unsigned w32 (cast_signed w32 (cast_unsigned w32 z)) → u ≡ cast_unsigned w32 z
same_bits z u fits is = is ∙ ap (cast_unsigned w32) (to_z-of_z w32 z fits)

pub word_u : (opcode rd : ℕ) (z : ℤ) (u w : ℕ) (row : Row) → opcode < 128 → is_valid_u rd z ≡ true → SFits w32 z → u < 2 ^ 32 → u ≡ cast_unsigned w32 z → w ≡ opcode + rd * 128 + u → row_by rows opcode (funct3_of w) (funct7_of w) w ≡ Some row → row.form ≡ FormU → instruction_of w ≡ Some (instr_with row.name rd 0 0 z)
word_u opcode rd z u w row small valid sfits below bits is row_is form =
    let both = and_parts (is_register rd) (is_multiple z 4096) valid in
    let r : rd < 32 = ltb-true _ _ both.0 in
    let m : cast_unsigned w32 z % 4096 ≡ 0 = eqb-true _ _ both.1 in
    let m' : u % 4096 ≡ 0 = ap (λ (n : ℕ). n % 4096) bits ∙ m in
    let imm : w / 4096 % 1048576 * 4096 ≡ u = omega arith in
    let back : signed (w / 4096 % 1048576 * 4096) ≡ z = ap signed (imm ∙ bits) ∙ to_z-of_z w32 z sfits in
    placed w opcode (funct3_of w) (funct7_of w) row FormU rd 0 0 z (omega arith) (omega arith) refl refl row_is form (omega arith) refl refl back

pub word_j : (opcode rd : ℕ) (z : ℤ) (u w : ℕ) (row : Row) → opcode < 128 → is_valid_j rd z ≡ true → u ≡ cast_unsigned w32 z → w ≡ opcode + rd * 128 + (u / 1048576 % 2 * 2147483648 + u / 2 % 1024 * 2097152 + u / 2048 % 2 * 1048576 + u / 4096 % 256 * 4096) → row_by rows opcode (funct3_of w) (funct7_of w) w ≡ Some row → row.form ≡ FormJ → instruction_of w ≡ Some (instr_with row.name rd 0 0 z)
word_j opcode rd z u w row small valid bits is row_is form =
    let both = and_parts (is_register rd && is_within (negsuc 1048575) z (pos 1048574)) (is_multiple z 2) valid in
    let first = and_parts (is_register rd) (is_within (negsuc 1048575) z (pos 1048574)) both.0 in
    let r : rd < 32 = ltb-true _ _ first.0 in
    let m : cast_unsigned w32 z % 2 ≡ 0 = eqb-true _ _ both.1 in
    let m' : u % 2 ≡ 0 = ap (λ (n : ℕ). n % 2) bits ∙ m in
    let imm : w / 2147483648 % 2 * 1048576 + w / 4096 % 256 * 4096 + w / 1048576 % 2 * 2048 + w / 2097152 % 1024 * 2 ≡ u % 2097152 = omega arith in
    placed w opcode (funct3_of w) (funct7_of w) row FormJ rd 0 0 z (omega arith) (omega arith) refl refl row_is form (omega arith) refl refl (low_21 z _ first.1 (imm ∙ ap (λ (n : ℕ). n % 2097152) bits))

pub word_i : (opcode funct3 rd rs1 : ℕ) (z : ℤ) (u w : ℕ) (row : Row) → opcode < 128 → funct3 < 8 → is_valid_i rd rs1 z ≡ true → u ≡ cast_unsigned w32 z → w ≡ opcode + rd * 128 + funct3 * 4096 + rs1 * 32768 + u % 4096 * 1048576 → row_by rows opcode funct3 (funct7_of w) w ≡ Some row → row.form ≡ FormI → instruction_of w ≡ Some (instr_with row.name rd rs1 0 z)
word_i opcode funct3 rd rs1 z u w row small few valid bits is row_is form =
    let both = and_parts (is_register rd && is_register rs1) (is_within (negsuc 2047) z (pos 2047)) valid in
    let regs = and_parts (is_register rd) (is_register rs1) both.0 in
    let r : rd < 32 = ltb-true _ _ regs.0 in
    let s : rs1 < 32 = ltb-true _ _ regs.1 in
    let imm : w / 1048576 % 4096 ≡ u % 4096 = omega arith in
    placed w opcode funct3 (funct7_of w) row FormI rd rs1 0 z (omega arith) (omega arith) (omega arith) refl row_is form (omega arith) (omega arith) refl (low_12 z _ both.1 (imm ∙ ap (λ (n : ℕ). n % 4096) bits))

pub word_b : (opcode funct3 rs1 rs2 : ℕ) (z : ℤ) (u w : ℕ) (row : Row) → opcode < 128 → funct3 < 8 → is_valid_b rs1 rs2 z ≡ true → u ≡ cast_unsigned w32 z → w ≡ opcode + (u / 2 % 16 * 256 + u / 2048 % 2 * 128) + funct3 * 4096 + rs1 * 32768 + rs2 * 1048576 + (u / 4096 % 2 * 2147483648 + u / 32 % 64 * 33554432) → row_by rows opcode funct3 (funct7_of w) w ≡ Some row → row.form ≡ FormB → instruction_of w ≡ Some (instr_with row.name 0 rs1 rs2 z)
word_b opcode funct3 rs1 rs2 z u w row small few valid bits is row_is form =
    let both = and_parts (is_register rs1 && is_register rs2 && is_within (negsuc 4095) z (pos 4094)) (is_multiple z 2) valid in
    let first = and_parts (is_register rs1 && is_register rs2) (is_within (negsuc 4095) z (pos 4094)) both.0 in
    let regs = and_parts (is_register rs1) (is_register rs2) first.0 in
    let r : rs1 < 32 = ltb-true _ _ regs.0 in
    let s : rs2 < 32 = ltb-true _ _ regs.1 in
    let m : cast_unsigned w32 z % 2 ≡ 0 = eqb-true _ _ both.1 in
    let m' : u % 2 ≡ 0 = ap (λ (n : ℕ). n % 2) bits ∙ m in
    let imm : w / 2147483648 % 2 * 4096 + w / 128 % 2 * 2048 + w / 33554432 % 64 * 32 + w / 256 % 16 * 2 ≡ u % 8192 = omega arith in
    placed w opcode funct3 (funct7_of w) row FormB 0 rs1 rs2 z (omega arith) (omega arith) (omega arith) refl row_is form refl (omega arith) (omega arith) (low_13 z _ first.1 (imm ∙ ap (λ (n : ℕ). n % 8192) bits))

pub word_s : (opcode funct3 rs1 rs2 : ℕ) (z : ℤ) (u w : ℕ) (row : Row) → opcode < 128 → funct3 < 8 → is_valid_s rs1 rs2 z ≡ true → u ≡ cast_unsigned w32 z → w ≡ opcode + u % 32 * 128 + funct3 * 4096 + rs1 * 32768 + rs2 * 1048576 + u / 32 % 128 * 33554432 → row_by rows opcode funct3 (funct7_of w) w ≡ Some row → row.form ≡ FormS → instruction_of w ≡ Some (instr_with row.name 0 rs1 rs2 z)
word_s opcode funct3 rs1 rs2 z u w row small few valid bits is row_is form =
    let both = and_parts (is_register rs1 && is_register rs2) (is_within (negsuc 2047) z (pos 2047)) valid in
    let regs = and_parts (is_register rs1) (is_register rs2) both.0 in
    let r : rs1 < 32 = ltb-true _ _ regs.0 in
    let s : rs2 < 32 = ltb-true _ _ regs.1 in
    let imm : w / 33554432 % 128 * 32 + w / 128 % 32 ≡ u % 4096 = omega arith in
    placed w opcode funct3 (funct7_of w) row FormS 0 rs1 rs2 z (omega arith) (omega arith) (omega arith) refl row_is form refl (omega arith) (omega arith) (low_12 z _ both.1 (imm ∙ ap (λ (n : ℕ). n % 4096) bits))

pub word_shift : (opcode funct3 funct7 rd rs1 : ℕ) (z : ℤ) (u w : ℕ) (row : Row) → opcode < 128 → funct3 < 8 → funct7 < 128 → is_valid_shift rd rs1 z ≡ true → u ≡ cast_unsigned w32 z → w ≡ opcode + rd * 128 + funct3 * 4096 + rs1 * 32768 + u * 1048576 + funct7 * 33554432 → row_by rows opcode funct3 funct7 w ≡ Some row → row.form ≡ FormShift → instruction_of w ≡ Some (instr_with row.name rd rs1 0 z)
word_shift opcode funct3 funct7 rd rs1 z u w row small few few' valid bits is row_is form =
    let both = and_parts (is_register rd && is_register rs1) (is_within (pos 0) z (pos 31)) valid in
    let regs = and_parts (is_register rd) (is_register rs1) both.0 in
    let r : rd < 32 = ltb-true _ _ regs.0 in
    let s : rs1 < 32 = ltb-true _ _ regs.1 in
    let amount = low_5 z u both.1 bits in
    let a : u < 32 = amount.0 in
    let imm : w / 1048576 % 32 ≡ u = omega arith in
    placed w opcode funct3 funct7 row FormShift rd rs1 0 z (omega arith) (omega arith) (omega arith) (omega arith) row_is form (omega arith) (omega arith) refl (ap signed imm ∙ amount.1)

pub word_r : (opcode funct3 funct7 rd rs1 rs2 w : ℕ) (row : Row) → opcode < 128 → funct3 < 8 → funct7 < 128 → is_valid_r rd rs1 rs2 ≡ true → w ≡ opcode + rd * 128 + funct3 * 4096 + (rs1 * 32768 + rs2 * 1048576) + funct7 * 33554432 → row_by rows opcode funct3 funct7 w ≡ Some row → row.form ≡ FormR → instruction_of w ≡ Some (instr_with row.name rd rs1 rs2 (pos 0))
word_r opcode funct3 funct7 rd rs1 rs2 w row small few few' valid is row_is form =
    let both = and_parts (is_register rd && is_register rs1) (is_register rs2) valid in
    let regs = and_parts (is_register rd) (is_register rs1) both.0 in
    let r : rd < 32 = ltb-true _ _ regs.0 in
    let s : rs1 < 32 = ltb-true _ _ regs.1 in
    let t : rs2 < 32 = ltb-true _ _ both.1 in
    placed w opcode funct3 funct7 row FormR rd rs1 rs2 (pos 0) (omega arith) (omega arith) (omega arith) (omega arith) row_is form (omega arith) (omega arith) (omega arith) refl
