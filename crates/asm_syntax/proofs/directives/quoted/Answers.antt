-- A text has a value if it stands for bytes.
use Rattle.std.proofs.Common.{sym, ◌∙◌}
use Rattle.asm_syntax.specs.Texts.{text_bytes}
use Rattle.asm_syntax.proofs.TextLemmas.{text-made, text-malformed}
use Rattle.asm_syntax.proofs.directives.quoted.Goals as goal

pub returns-then-is_text-clause-statement : goal.returns-then-is_text-clause-statement
returns-then-is_text-clause-statement c =
    rw c.in-Text.is (text-made (text_bytes c.in-Text.text.now) (sym c.is_text.ensures.bytes ∙ c.if-is_text.true))

pub returns-else-is_text-clause-statement : goal.returns-else-is_text-clause-statement
returns-else-is_text-clause-statement c =
    rw c.in-Text.is (text-malformed (text_bytes c.in-Text.text.now) (sym c.is_text.ensures.bytes ∙ c.if-is_text.false))
