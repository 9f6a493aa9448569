-- The parts, one after another.
use Rattle.std.proofs.Common.{ℕ, List, [], ◌∷◌, ◌++◌, ap, ◌∙◌, append_assoc}
use Rattle.rv_disasm.specs.OperandTexts.{hex_word}
use Rattle.rv_disasm.proofs.asm_line.AsmLine.label.Goals as goal

pub returns-clause-label : goal.returns-clause-label
returns-clause-label c =
    c.hex_word.ensures.digits ∙ ap (λ (l : List ℕ). l ++ hex_word c.args.address) c.append.ensures.appended
    ∙ append_assoc c.args.self.now (97 ∷ 116 ∷ 95 ∷ []) (hex_word c.args.address)
