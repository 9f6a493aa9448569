-- The bytes that are left are apart if all are.
use Rattle.std.proofs.Common.{◌≡◌, drop}
use Rattle.xinu_model.specs.Files.Modes.{are_apart}
use Rattle.reference_switch.proofs.file_calls.are_apart.Given as goal

abbrev pub invariant-loop-i : goal.invariant-loop-i
invariant-loop-i l = are_apart (drop l.i l.text) ≡ are_apart l.text
