-- Each row's words compute.
use Rattle.std.proofs.Common.{refl}
use Rattle.std.proofs.lemmas.List.Elements.{All-from_recursion}
use Rattle.xinu_model.specs.Isa.Instructions.{rows}
use Rattle.rv_isa.specs.Encoding.{HasWords}
use Rattle.rv_isa.proofs.rows.rows_have_words.Goals as goal

pub returns : goal.returns
returns c = All-from_recursion HasWords rows
    ((λ rd rs1 rs2 imm. refl), ((λ rd rs1 rs2 imm. refl), ((λ rd rs1 rs2 imm. refl), ((λ rd rs1 rs2 imm. refl), ((λ rd rs1 rs2 imm. refl), ((λ rd rs1 rs2 imm. refl), ((λ rd rs1 rs2 imm. refl), ((λ rd rs1 rs2 imm. refl), ((λ rd rs1 rs2 imm. refl), ((λ rd rs1 rs2 imm. refl), ((λ rd rs1 rs2 imm. refl), ((λ rd rs1 rs2 imm. refl), ((λ rd rs1 rs2 imm. refl), ((λ rd rs1 rs2 imm. refl), ((λ rd rs1 rs2 imm. refl), ((λ rd rs1 rs2 imm. refl), ((λ rd rs1 rs2 imm. refl), ((λ rd rs1 rs2 imm. refl), ((λ rd rs1 rs2 imm. refl), ((λ rd rs1 rs2 imm. refl), ((λ rd rs1 rs2 imm. refl), ((λ rd rs1 rs2 imm. refl), ((λ rd rs1 rs2 imm. refl), ((λ rd rs1 rs2 imm. refl), ((λ rd rs1 rs2 imm. refl), ((λ rd rs1 rs2 imm. refl), ((λ rd rs1 rs2 imm. refl), ((λ rd rs1 rs2 imm. refl), ((λ rd rs1 rs2 imm. refl), ((λ rd rs1 rs2 imm. refl), ((λ rd rs1 rs2 imm. refl), ((λ rd rs1 rs2 imm. refl), ((λ rd rs1 rs2 imm. refl), ((λ rd rs1 rs2 imm. refl), ((λ rd rs1 rs2 imm. refl), ((λ rd rs1 rs2 imm. refl), ((λ rd rs1 rs2 imm. refl), ((λ rd rs1 rs2 imm. refl), ((λ rd rs1 rs2 imm. refl), ((λ rd rs1 rs2 imm. refl), tt))))))))))))))))))))))))))))))))))))))))
