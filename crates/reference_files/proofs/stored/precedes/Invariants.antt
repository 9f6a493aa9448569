use Rattle.std.proofs.Common.{◌≡◌, length}
use Rattle.xinu_model.specs.Files.Stored as model
use Rattle.reference_files.proofs.stored.precedes.Given as goal

abbrev pub invariant-loop-x : goal.invariant-loop-x
invariant-loop-x l = model.precedes l.left l.right ≡ model.precedes l.name l.other

abbrev pub decreases-loop-x : goal.decreases-loop-x
decreases-loop-x l = length l.left
