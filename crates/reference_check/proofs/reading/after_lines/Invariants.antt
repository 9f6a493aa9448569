use Rattle.std.proofs.Common.{◌≡◌, drop, Some}
use Rattle.xinu_model.specs.Text.{text}
use Rattle.reference_check.specs.Places.{after_bytes}
use Rattle.reference_check.proofs.reading.after_lines.Given as goal

abbrev pub invariant-loop-line : goal.invariant-loop-line
invariant-loop-line l = after_bytes (text (drop l.line-index l.lines)) (Some l.rest) ≡ after_bytes (text l.lines) (Some l.text)
