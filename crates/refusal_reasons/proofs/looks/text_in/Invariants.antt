-- The text is what was read before the text of what is left.
use Rattle.std.proofs.Common.{◌≡◌, drop, length, take}
use Rattle.xinu_model.specs.Devices.Texts.{text_in}
use Rattle.io_calls.proofs.ReadTexts.{after_bytes}
use Rattle.refusal_reasons.proofs.looks.text_in.Given as goal

abbrev pub invariant-loop-i : goal.invariant-loop-i
invariant-loop-i l = (l.i-end ≡ length l.bytes) × (text_in l.bytes ≡ after_bytes (take l.i l.bytes) (text_in (drop l.i l.bytes)))
