use Rattle.std.proofs.Common.{◌∙◌, ◌%◌, sym, refl, arith}
use Rattle.std.proofs.lemmas.Bool.{ne_eqb}
use Rattle.rv_isa.proofs.Decoded.{decoded_by-instruction_of, no_instruction}
use Rattle.rv_isa.proofs.decoder.decode.Goals as goal

pub returns-in-3 : goal.returns-in-3
returns-in-3 c = c.load.ensures ∙ decoded_by-instruction_of 3 c.args.word c.ranges.word.fits c.in-3.is

pub returns-in-15 : goal.returns-in-15
returns-in-15 c = c.fence.ensures ∙ decoded_by-instruction_of 15 c.args.word c.ranges.word.fits c.in-15.is

pub returns-in-19 : goal.returns-in-19
returns-in-19 c = c.immediate_operation.ensures ∙ decoded_by-instruction_of 19 c.args.word c.ranges.word.fits c.in-19.is

pub returns-in-35 : goal.returns-in-35
returns-in-35 c = c.store.ensures ∙ decoded_by-instruction_of 35 c.args.word c.ranges.word.fits c.in-35.is

pub returns-in-51 : goal.returns-in-51
returns-in-51 c = c.register_operation.ensures ∙ decoded_by-instruction_of 51 c.args.word c.ranges.word.fits c.in-51.is

pub returns-in-99 : goal.returns-in-99
returns-in-99 c = c.branch-word.ensures ∙ decoded_by-instruction_of 99 c.args.word c.ranges.word.fits c.in-99.is

pub returns-in-103 : goal.returns-in-103
returns-in-103 c = c.jump_register.ensures ∙ decoded_by-instruction_of 103 c.args.word c.ranges.word.fits c.in-103.is

pub returns-in-115 : goal.returns-in-115
returns-in-115 c = c.system.ensures ∙ decoded_by-instruction_of 115 c.args.word c.ranges.word.fits c.in-115.is

pub returns-in_default : goal.returns-in_default
returns-in_default c =
    sym (no_instruction (c.args.word % 128) c.args.word
    (ne_eqb _ _ (λ is. omega arith))
    (ne_eqb _ _ (λ is. omega arith))
    (ne_eqb _ _ (λ is. omega arith))
    (ne_eqb _ _ (λ is. omega arith))
    (ne_eqb _ _ (λ is. omega arith))
    (ne_eqb _ _ (λ is. omega arith))
    (ne_eqb _ _ (λ is. omega arith))
    (ne_eqb _ _ (λ is. omega arith))
    (ne_eqb _ _ (λ is. omega arith))
    (ne_eqb _ _ (λ is. omega arith))
    (ne_eqb _ _ (λ is. omega arith)))
    ∙ decoded_by-instruction_of (c.args.word % 128) c.args.word c.ranges.word.fits refl
