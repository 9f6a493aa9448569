use Rattle.std.proofs.Common.{refl}
use Rattle.rv_isa.proofs.Forms.{word_r}
use Rattle.rv_isa.proofs.encoder.form_r.Goals as goal

pub returns-clause-word : goal.returns-clause-word
returns-clause-word c = λ row is form. word_r c.args.opcode c.args.funct3 c.args.funct7 c.args.rd c.args.rs1 c.args.rs2 _ row c.requires.opcode c.requires.funct3 c.requires.funct7 c.requires.valid refl is form
