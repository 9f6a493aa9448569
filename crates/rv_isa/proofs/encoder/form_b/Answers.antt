use Rattle.std.proofs.Common.{refl}
use Rattle.rv_isa.proofs.Forms.{same_bits, word_b}
use Rattle.rv_isa.proofs.encoder.form_b.Goals as goal

pub returns-clause-word : goal.returns-clause-word
returns-clause-word c = λ row is form. word_b c.args.opcode c.args.funct3 c.args.rs1 c.args.rs2 c.args.imm c.cast_unsigned-bits.result _ row c.requires.opcode c.requires.funct3 c.requires.valid (same_bits c.args.imm c.cast_unsigned-bits.result c.ranges.imm c.cast_unsigned-bits.ensures) refl is form
