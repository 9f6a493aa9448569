-- What is left stands for bytes if the text does.
use Rattle.std.proofs.Common.{◌≡◌, length}
use Rattle.std.specs.Prelude.{is_some}
use Rattle.asm_syntax.specs.Texts.{text_bytes}
use Rattle.asm_syntax.proofs.texts.is_text.Given as goal

abbrev pub invariant-loop-rest : goal.invariant-loop-rest
invariant-loop-rest l = is_some (text_bytes l.text) ≡ is_some (text_bytes l.rest)

abbrev pub decreases-loop-rest : goal.decreases-loop-rest
decreases-loop-rest l = length l.rest
