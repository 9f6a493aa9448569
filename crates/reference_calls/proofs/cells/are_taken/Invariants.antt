-- What is left to be looked at begins so as the whole does.
use Rattle.std.proofs.Common.{◌≡◌, ◌-◌, drop, false}
use Rattle.xinu_model.specs.Heap.Cells as model
use Rattle.reference_calls.proofs.cells.are_taken.Given as goal

abbrev pub invariant-loop-i : goal.invariant-loop-i
invariant-loop-i l = model.begins_with false (l.k - l.i) (drop l.i l.rest) ≡ model.begins_with false l.k l.rest
