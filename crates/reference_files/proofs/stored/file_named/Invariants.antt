use Rattle.std.proofs.Common.{◌≡◌, drop}
use Rattle.xinu_model.specs.Files.Stored as model
use Rattle.reference_files.proofs.stored.file_named.Given as goal

abbrev pub invariant-loop-file : goal.invariant-loop-file
invariant-loop-file l = model.file_named l.name (drop l.file-index l.files) ≡ model.file_named l.name l.files
