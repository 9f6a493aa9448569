-- All bytes that are left are letters if all are.
use Rattle.std.proofs.Common.{◌≡◌, drop}
use Rattle.std.specs.List.{list_all}
use Rattle.xinu_model.specs.Files.Modes.{is_mode_letter}
use Rattle.reference_switch.proofs.file_calls.are_letters.Given as goal

abbrev pub invariant-loop-b : goal.invariant-loop-b
invariant-loop-b l = list_all is_mode_letter (drop l.b-index l.text) ≡ list_all is_mode_letter l.text
