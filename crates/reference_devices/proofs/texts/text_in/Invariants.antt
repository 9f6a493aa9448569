-- The text is what was read before the text of what is left.
use Rattle.std.proofs.Common.{◌≡◌, drop}
use Rattle.xinu_model.specs.Devices.Texts.{text_in}
use Rattle.reference_devices.proofs.ReadTexts.{after_bytes}
use Rattle.reference_devices.proofs.texts.text_in.Given as goal

abbrev pub invariant-loop-b : goal.invariant-loop-b
invariant-loop-b l = after_bytes l.text.items (text_in (drop l.b-index l.bytes)) ≡ text_in l.bytes
