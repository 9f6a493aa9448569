-- Each byte so far passes.
use Rattle.std.proofs.Common.{◌≡◌, drop}
use Rattle.std.specs.List.{list_all}
use Rattle.xinu_model.specs.Files.Modes.{is_mode_letter}
use Rattle.refusal_reasons.proofs.file_causes.are_letters.Given as goal

abbrev pub invariant-loop-b : goal.invariant-loop-b
invariant-loop-b l = list_all is_mode_letter l.mode ≡ list_all is_mode_letter (drop l.b-index l.mode)
