-- One byte stands for itself or is escaped.
use Rattle.std.proofs.Common.{◌∙◌}
use Rattle.asm_syntax.specs.Texts.{text_bytes}
use Rattle.asm_syntax.proofs.TextLemmas.{text-rest}
use Rattle.asm_syntax.proofs.texts.is_text.Goals as goal

pub loop-rest-preserved : goal.loop-rest-preserved
loop-rest-preserved c =
    c.loop-rest.invariant
    ∙ text-rest c.in-Some.field-0-0 (text_bytes c.loop-rest.rest.now) (text_bytes c.in-Some.next.now) c.in-Some.ensures.byte
