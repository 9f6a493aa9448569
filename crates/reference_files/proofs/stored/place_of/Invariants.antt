use Rattle.std.proofs.Common.{◌≡◌, ◌++◌, drop, take}
use Rattle.xinu_model.specs.Files.Stored as model
use Rattle.reference_files.proofs.stored.place_of.Given as goal

abbrev pub invariant-loop-other : goal.invariant-loop-other
invariant-loop-other l =
    (take l.at l.files ++ model.with_stored l.file (drop l.at l.files) ≡ model.with_stored l.file l.files) × (l.at ≡ l.other-index)
