-- The parts, one after another.
use Rattle.std.proofs.Common.{ℕ, List, ◌++◌, codes, ap, ◌∙◌, append_assoc}
use Rattle.rv_disasm.specs.OperandTexts.{hex_word}
use Rattle.rv_disasm.proofs.disassembler.push_data.Goals as goal

pub returns : goal.returns
returns c =
    c.hex_word.ensures.digits ∙ ap (λ (l : List ℕ). l ++ hex_word c.args.word) c.append.ensures.appended
    ∙ append_assoc c.args.line.now (codes ".word 0x") (hex_word c.args.word)
