use Rattle.std.proofs.Common.{refl}
use Rattle.rv_isa.proofs.Forms.{same_bits, word_i}
use Rattle.rv_isa.proofs.encoder.form_i.Goals as goal

pub returns-clause-word : goal.returns-clause-word
returns-clause-word c = λ row is form. word_i c.args.opcode c.args.funct3 c.args.rd c.args.rs1 c.args.imm c.cast_unsigned.result _ row c.requires.opcode c.requires.funct3 c.requires.valid (same_bits c.args.imm c.cast_unsigned.result c.ranges.imm c.cast_unsigned.ensures) refl is form
