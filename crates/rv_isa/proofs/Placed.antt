-- A word is an instruction if its opcode, funct3 and funct7 name the row, and its fields are those of the instruction.
use Rattle.std.proofs.Common.{◌≡◌, ℕ, ◌<◌, ◌^◌, ℤ, Some, ap, ◌∙◌}
use Rattle.xinu_model.specs.Isa.Instructions.{Row, Form, rows, row_of, fields}
use Rattle.xinu_model.specs.Words.{signed}
use Rattle.rv_isa.specs.RowFields.{row_by, opcode_of, funct3_of, funct7_of}
use Rattle.rv_isa.proofs.RowByFields.{row_of-parts}
use Rattle.rv_isa.specs.Words.{decoded, instruction_of, instr_of, instr_with}

pub placed : (w opcode funct3 funct7 : ℕ) (row : Row) (form : Form) (rd rs1 rs2 : ℕ) (imm : ℤ) → w < 2 ^ 32 → opcode_of w ≡ opcode → funct3_of w ≡ funct3 → funct7_of w ≡ funct7 → row_by rows opcode funct3 funct7 w ≡ Some row → row.form ≡ form → (fields form w).rd ≡ rd → (fields form w).rs1 ≡ rs1 → (fields form w).rs2 ≡ rs2 → signed (fields form w).imm ≡ imm → instruction_of w ≡ Some (instr_with row.name rd rs1 rs2 imm)
placed w opcode funct3 funct7 row form rd rs1 rs2 imm fits a b c is form_is d e f g =
    let row_is : row_of w ≡ Some row =
    row_of-parts w fits ∙ ap (λ (o : ℕ). row_by rows o (funct3_of w) (funct7_of w) w) a ∙ ap (λ (n : ℕ). row_by rows opcode n (funct7_of w) w) b
    ∙ ap (λ (n : ℕ). row_by rows opcode funct3 n w) c ∙ is in
    ap (λ r. decoded r w) row_is
    ∙ ap (λ (x : Form). Some (instr_of row.name (fields x w))) form_is
    ∙ ap (λ (n : ℕ). Some (instr_with row.name n (fields form w).rs1 (fields form w).rs2 (signed (fields form w).imm))) d
    ∙ ap (λ (n : ℕ). Some (instr_with row.name rd n (fields form w).rs2 (signed (fields form w).imm))) e
    ∙ ap (λ (n : ℕ). Some (instr_with row.name rd rs1 n (signed (fields form w).imm))) f
    ∙ ap (λ (z : ℤ). Some (instr_with row.name rd rs1 rs2 z)) g
