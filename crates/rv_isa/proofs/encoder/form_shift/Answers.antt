use Rattle.std.proofs.Common.{refl}
use Rattle.rv_isa.proofs.Forms.{same_bits, word_shift}
use Rattle.rv_isa.proofs.encoder.form_shift.Goals as goal

pub returns-clause-word : goal.returns-clause-word
returns-clause-word c = λ row is form. word_shift c.args.opcode c.args.funct3 c.args.funct7 c.args.rd c.args.rs1 c.args.imm c.cast_unsigned-amount.result _ row c.requires.opcode c.requires.funct3 c.requires.funct7 c.requires.valid (same_bits c.args.imm c.cast_unsigned-amount.result c.ranges.imm c.cast_unsigned-amount.ensures) refl is form
