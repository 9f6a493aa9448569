-- The first k files.
use Rattle.std.proofs.Common.{◌≡◌, take}
use Rattle.file_laws.specs.StoredFiles.{stored_files}
use Rattle.reference_boot.proofs.file_system.files_of.Given as goal

abbrev pub invariant-loop-k : goal.invariant-loop-k
invariant-loop-k l = l.files.items ≡ take l.k (stored_files l.fn.image)
