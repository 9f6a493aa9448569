use Rattle.std.proofs.Common.{Some, ℤ, w32, rules, refl, sym, ap, ◌∙◌}
use mir.Val.{SFits}
use Rattle.std.proofs.lemmas.Int.{to_z-of_z}
use Rattle.rv_isa.specs.declared.instr.Instr.{Instr}
use Rattle.rv_isa.specs.declared.instr.Instr.TheVariants.{Lui, Auipc, Jal, Jalr, Beq, Bne, Blt, Bge, Bltu, Bgeu, Lb, Lh, Lw, Lbu, Lhu, Sb, Sh, Sw, Addi, Slti, Sltiu, Xori, Ori, Andi, Slli, Srli, Srai}
use Rattle.rv_isa.proofs.encoder.encode.Goals as goal

pub returns-in-Lui-clause-word : goal.returns-in-Lui-clause-word
returns-in-Lui-clause-word c =
    let fits : SFits w32 c.in-Lui.imm = search rules in
    c.form_u.ensures.word _ refl refl ∙ ap (λ (z : ℤ). Some (Lui c.in-Lui.rd z)) (to_z-of_z w32 c.in-Lui.imm fits) ∙ ap (λ (i : Instr). Some i) (sym c.in-Lui.is)

pub returns-in-Auipc-clause-word : goal.returns-in-Auipc-clause-word
returns-in-Auipc-clause-word c =
    let fits : SFits w32 c.in-Auipc.imm = search rules in
    c.form_u-in-Auipc.ensures.word _ refl refl ∙ ap (λ (z : ℤ). Some (Auipc c.in-Auipc.rd z)) (to_z-of_z w32 c.in-Auipc.imm fits) ∙ ap (λ (i : Instr). Some i) (sym c.in-Auipc.is)

pub returns-in-Jal-clause-word : goal.returns-in-Jal-clause-word
returns-in-Jal-clause-word c =
    let fits : SFits w32 c.in-Jal.imm = search rules in
    c.form_j.ensures.word _ refl refl ∙ ap (λ (z : ℤ). Some (Jal c.in-Jal.rd z)) (to_z-of_z w32 c.in-Jal.imm fits) ∙ ap (λ (i : Instr). Some i) (sym c.in-Jal.is)

pub returns-in-Jalr-clause-word : goal.returns-in-Jalr-clause-word
returns-in-Jalr-clause-word c =
    let fits : SFits w32 c.in-Jalr.imm = search rules in
    c.form_i.ensures.word _ refl refl ∙ ap (λ (z : ℤ). Some (Jalr c.in-Jalr.rd c.in-Jalr.rs1 z)) (to_z-of_z w32 c.in-Jalr.imm fits) ∙ ap (λ (i : Instr). Some i) (sym c.in-Jalr.is)

pub returns-in-Lb-clause-word : goal.returns-in-Lb-clause-word
returns-in-Lb-clause-word c =
    let fits : SFits w32 c.in-Lb.imm = search rules in
    c.form_i-in-Lb.ensures.word _ refl refl ∙ ap (λ (z : ℤ). Some (Lb c.in-Lb.rd c.in-Lb.rs1 z)) (to_z-of_z w32 c.in-Lb.imm fits) ∙ ap (λ (i : Instr). Some i) (sym c.in-Lb.is)

pub returns-in-Lh-clause-word : goal.returns-in-Lh-clause-word
returns-in-Lh-clause-word c =
    let fits : SFits w32 c.in-Lh.imm = search rules in
    c.form_i-in-Lh.ensures.word _ refl refl ∙ ap (λ (z : ℤ). Some (Lh c.in-Lh.rd c.in-Lh.rs1 z)) (to_z-of_z w32 c.in-Lh.imm fits) ∙ ap (λ (i : Instr). Some i) (sym c.in-Lh.is)

pub returns-in-Lw-clause-word : goal.returns-in-Lw-clause-word
returns-in-Lw-clause-word c =
    let fits : SFits w32 c.in-Lw.imm = search rules in
    c.form_i-in-Lw.ensures.word _ refl refl ∙ ap (λ (z : ℤ). Some (Lw c.in-Lw.rd c.in-Lw.rs1 z)) (to_z-of_z w32 c.in-Lw.imm fits) ∙ ap (λ (i : Instr). Some i) (sym c.in-Lw.is)

pub returns-in-Lbu-clause-word : goal.returns-in-Lbu-clause-word
returns-in-Lbu-clause-word c =
    let fits : SFits w32 c.in-Lbu.imm = search rules in
    c.form_i-in-Lbu.ensures.word _ refl refl ∙ ap (λ (z : ℤ). Some (Lbu c.in-Lbu.rd c.in-Lbu.rs1 z)) (to_z-of_z w32 c.in-Lbu.imm fits) ∙ ap (λ (i : Instr). Some i) (sym c.in-Lbu.is)

pub returns-in-Lhu-clause-word : goal.returns-in-Lhu-clause-word
returns-in-Lhu-clause-word c =
    let fits : SFits w32 c.in-Lhu.imm = search rules in
    c.form_i-in-Lhu.ensures.word _ refl refl ∙ ap (λ (z : ℤ). Some (Lhu c.in-Lhu.rd c.in-Lhu.rs1 z)) (to_z-of_z w32 c.in-Lhu.imm fits) ∙ ap (λ (i : Instr). Some i) (sym c.in-Lhu.is)

pub returns-in-Addi-clause-word : goal.returns-in-Addi-clause-word
returns-in-Addi-clause-word c =
    let fits : SFits w32 c.in-Addi.imm = search rules in
    c.form_i-in-Addi.ensures.word _ refl refl ∙ ap (λ (z : ℤ). Some (Addi c.in-Addi.rd c.in-Addi.rs1 z)) (to_z-of_z w32 c.in-Addi.imm fits) ∙ ap (λ (i : Instr). Some i) (sym c.in-Addi.is)

pub returns-in-Slti-clause-word : goal.returns-in-Slti-clause-word
returns-in-Slti-clause-word c =
    let fits : SFits w32 c.in-Slti.imm = search rules in
    c.form_i-in-Slti.ensures.word _ refl refl ∙ ap (λ (z : ℤ). Some (Slti c.in-Slti.rd c.in-Slti.rs1 z)) (to_z-of_z w32 c.in-Slti.imm fits) ∙ ap (λ (i : Instr). Some i) (sym c.in-Slti.is)

pub returns-in-Sltiu-clause-word : goal.returns-in-Sltiu-clause-word
returns-in-Sltiu-clause-word c =
    let fits : SFits w32 c.in-Sltiu.imm = search rules in
    c.form_i-in-Sltiu.ensures.word _ refl refl ∙ ap (λ (z : ℤ). Some (Sltiu c.in-Sltiu.rd c.in-Sltiu.rs1 z)) (to_z-of_z w32 c.in-Sltiu.imm fits) ∙ ap (λ (i : Instr). Some i) (sym c.in-Sltiu.is)

pub returns-in-Xori-clause-word : goal.returns-in-Xori-clause-word
returns-in-Xori-clause-word c =
    let fits : SFits w32 c.in-Xori.imm = search rules in
    c.form_i-in-Xori.ensures.word _ refl refl ∙ ap (λ (z : ℤ). Some (Xori c.in-Xori.rd c.in-Xori.rs1 z)) (to_z-of_z w32 c.in-Xori.imm fits) ∙ ap (λ (i : Instr). Some i) (sym c.in-Xori.is)

pub returns-in-Ori-clause-word : goal.returns-in-Ori-clause-word
returns-in-Ori-clause-word c =
    let fits : SFits w32 c.in-Ori.imm = search rules in
    c.form_i-in-Ori.ensures.word _ refl refl ∙ ap (λ (z : ℤ). Some (Ori c.in-Ori.rd c.in-Ori.rs1 z)) (to_z-of_z w32 c.in-Ori.imm fits) ∙ ap (λ (i : Instr). Some i) (sym c.in-Ori.is)

pub returns-in-Andi-clause-word : goal.returns-in-Andi-clause-word
returns-in-Andi-clause-word c =
    let fits : SFits w32 c.in-Andi.imm = search rules in
    c.form_i-in-Andi.ensures.word _ refl refl ∙ ap (λ (z : ℤ). Some (Andi c.in-Andi.rd c.in-Andi.rs1 z)) (to_z-of_z w32 c.in-Andi.imm fits) ∙ ap (λ (i : Instr). Some i) (sym c.in-Andi.is)

pub returns-in-Beq-clause-word : goal.returns-in-Beq-clause-word
returns-in-Beq-clause-word c =
    let fits : SFits w32 c.in-Beq.imm = search rules in
    c.form_b.ensures.word _ refl refl ∙ ap (λ (z : ℤ). Some (Beq c.in-Beq.rs1 c.in-Beq.rs2 z)) (to_z-of_z w32 c.in-Beq.imm fits) ∙ ap (λ (i : Instr). Some i) (sym c.in-Beq.is)

pub returns-in-Bne-clause-word : goal.returns-in-Bne-clause-word
returns-in-Bne-clause-word c =
    let fits : SFits w32 c.in-Bne.imm = search rules in
    c.form_b-in-Bne.ensures.word _ refl refl ∙ ap (λ (z : ℤ). Some (Bne c.in-Bne.rs1 c.in-Bne.rs2 z)) (to_z-of_z w32 c.in-Bne.imm fits) ∙ ap (λ (i : Instr). Some i) (sym c.in-Bne.is)

pub returns-in-Blt-clause-word : goal.returns-in-Blt-clause-word
returns-in-Blt-clause-word c =
    let fits : SFits w32 c.in-Blt.imm = search rules in
    c.form_b-in-Blt.ensures.word _ refl refl ∙ ap (λ (z : ℤ). Some (Blt c.in-Blt.rs1 c.in-Blt.rs2 z)) (to_z-of_z w32 c.in-Blt.imm fits) ∙ ap (λ (i : Instr). Some i) (sym c.in-Blt.is)

pub returns-in-Bge-clause-word : goal.returns-in-Bge-clause-word
returns-in-Bge-clause-word c =
    let fits : SFits w32 c.in-Bge.imm = search rules in
    c.form_b-in-Bge.ensures.word _ refl refl ∙ ap (λ (z : ℤ). Some (Bge c.in-Bge.rs1 c.in-Bge.rs2 z)) (to_z-of_z w32 c.in-Bge.imm fits) ∙ ap (λ (i : Instr). Some i) (sym c.in-Bge.is)

pub returns-in-Bltu-clause-word : goal.returns-in-Bltu-clause-word
returns-in-Bltu-clause-word c =
    let fits : SFits w32 c.in-Bltu.imm = search rules in
    c.form_b-in-Bltu.ensures.word _ refl refl ∙ ap (λ (z : ℤ). Some (Bltu c.in-Bltu.rs1 c.in-Bltu.rs2 z)) (to_z-of_z w32 c.in-Bltu.imm fits) ∙ ap (λ (i : Instr). Some i) (sym c.in-Bltu.is)

pub returns-in-Bgeu-clause-word : goal.returns-in-Bgeu-clause-word
returns-in-Bgeu-clause-word c =
    let fits : SFits w32 c.in-Bgeu.imm = search rules in
    c.form_b-in-Bgeu.ensures.word _ refl refl ∙ ap (λ (z : ℤ). Some (Bgeu c.in-Bgeu.rs1 c.in-Bgeu.rs2 z)) (to_z-of_z w32 c.in-Bgeu.imm fits) ∙ ap (λ (i : Instr). Some i) (sym c.in-Bgeu.is)

pub returns-in-Sb-clause-word : goal.returns-in-Sb-clause-word
returns-in-Sb-clause-word c =
    let fits : SFits w32 c.in-Sb.imm = search rules in
    c.form_s.ensures.word _ refl refl ∙ ap (λ (z : ℤ). Some (Sb c.in-Sb.rs1 c.in-Sb.rs2 z)) (to_z-of_z w32 c.in-Sb.imm fits) ∙ ap (λ (i : Instr). Some i) (sym c.in-Sb.is)

pub returns-in-Sh-clause-word : goal.returns-in-Sh-clause-word
returns-in-Sh-clause-word c =
    let fits : SFits w32 c.in-Sh.imm = search rules in
    c.form_s-in-Sh.ensures.word _ refl refl ∙ ap (λ (z : ℤ). Some (Sh c.in-Sh.rs1 c.in-Sh.rs2 z)) (to_z-of_z w32 c.in-Sh.imm fits) ∙ ap (λ (i : Instr). Some i) (sym c.in-Sh.is)

pub returns-in-Sw-clause-word : goal.returns-in-Sw-clause-word
returns-in-Sw-clause-word c =
    let fits : SFits w32 c.in-Sw.imm = search rules in
    c.form_s-in-Sw.ensures.word _ refl refl ∙ ap (λ (z : ℤ). Some (Sw c.in-Sw.rs1 c.in-Sw.rs2 z)) (to_z-of_z w32 c.in-Sw.imm fits) ∙ ap (λ (i : Instr). Some i) (sym c.in-Sw.is)

pub returns-in-Slli-clause-word : goal.returns-in-Slli-clause-word
returns-in-Slli-clause-word c =
    let fits : SFits w32 c.in-Slli.imm = search rules in
    c.form_shift.ensures.word _ refl refl ∙ ap (λ (z : ℤ). Some (Slli c.in-Slli.rd c.in-Slli.rs1 z)) (to_z-of_z w32 c.in-Slli.imm fits) ∙ ap (λ (i : Instr). Some i) (sym c.in-Slli.is)

pub returns-in-Srli-clause-word : goal.returns-in-Srli-clause-word
returns-in-Srli-clause-word c =
    let fits : SFits w32 c.in-Srli.imm = search rules in
    c.form_shift-in-Srli.ensures.word _ refl refl ∙ ap (λ (z : ℤ). Some (Srli c.in-Srli.rd c.in-Srli.rs1 z)) (to_z-of_z w32 c.in-Srli.imm fits) ∙ ap (λ (i : Instr). Some i) (sym c.in-Srli.is)

pub returns-in-Srai-clause-word : goal.returns-in-Srai-clause-word
returns-in-Srai-clause-word c =
    let fits : SFits w32 c.in-Srai.imm = search rules in
    c.form_shift-in-Srai.ensures.word _ refl refl ∙ ap (λ (z : ℤ). Some (Srai c.in-Srai.rd c.in-Srai.rs1 z)) (to_z-of_z w32 c.in-Srai.imm fits) ∙ ap (λ (i : Instr). Some i) (sym c.in-Srai.is)

pub returns-in-Add-clause-word : goal.returns-in-Add-clause-word
returns-in-Add-clause-word c = c.form_r.ensures.word _ refl refl ∙ ap (λ (i : Instr). Some i) (sym c.in-Add.is)

pub returns-in-Sub-clause-word : goal.returns-in-Sub-clause-word
returns-in-Sub-clause-word c = c.form_r-in-Sub.ensures.word _ refl refl ∙ ap (λ (i : Instr). Some i) (sym c.in-Sub.is)

pub returns-in-Sll-clause-word : goal.returns-in-Sll-clause-word
returns-in-Sll-clause-word c = c.form_r-in-Sll.ensures.word _ refl refl ∙ ap (λ (i : Instr). Some i) (sym c.in-Sll.is)

pub returns-in-Slt-clause-word : goal.returns-in-Slt-clause-word
returns-in-Slt-clause-word c = c.form_r-in-Slt.ensures.word _ refl refl ∙ ap (λ (i : Instr). Some i) (sym c.in-Slt.is)

pub returns-in-Sltu-clause-word : goal.returns-in-Sltu-clause-word
returns-in-Sltu-clause-word c = c.form_r-in-Sltu.ensures.word _ refl refl ∙ ap (λ (i : Instr). Some i) (sym c.in-Sltu.is)

pub returns-in-Xor-clause-word : goal.returns-in-Xor-clause-word
returns-in-Xor-clause-word c = c.form_r-in-Xor.ensures.word _ refl refl ∙ ap (λ (i : Instr). Some i) (sym c.in-Xor.is)

pub returns-in-Srl-clause-word : goal.returns-in-Srl-clause-word
returns-in-Srl-clause-word c = c.form_r-in-Srl.ensures.word _ refl refl ∙ ap (λ (i : Instr). Some i) (sym c.in-Srl.is)

pub returns-in-Sra-clause-word : goal.returns-in-Sra-clause-word
returns-in-Sra-clause-word c = c.form_r-in-Sra.ensures.word _ refl refl ∙ ap (λ (i : Instr). Some i) (sym c.in-Sra.is)

pub returns-in-Or-clause-word : goal.returns-in-Or-clause-word
returns-in-Or-clause-word c = c.form_r-in-Or.ensures.word _ refl refl ∙ ap (λ (i : Instr). Some i) (sym c.in-Or.is)

pub returns-in-And-clause-word : goal.returns-in-And-clause-word
returns-in-And-clause-word c = c.form_r-in-And.ensures.word _ refl refl ∙ ap (λ (i : Instr). Some i) (sym c.in-And.is)
