use Rattle.std.proofs.Common.{refl}
use Rattle.rv_isa.proofs.Forms.{same_bits, word_u}
use Rattle.rv_isa.proofs.encoder.form_u.Goals as goal

pub returns-clause-word : goal.returns-clause-word
returns-clause-word c = λ row is form. word_u c.args.opcode c.args.rd c.args.imm c.cast_unsigned.result _ row c.requires.opcode c.requires.valid c.ranges.imm c.cast_unsigned.type_inv (same_bits c.args.imm c.cast_unsigned.result c.ranges.imm c.cast_unsigned.ensures) refl is form
