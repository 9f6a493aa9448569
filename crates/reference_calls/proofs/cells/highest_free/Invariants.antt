-- So many free cells begin here, and from here on no k free cells begin.
use Rattle.std.proofs.Common.{◌≡◌, None, drop}
use Rattle.xinu_model.specs.Heap.Cells as model
use Rattle.reference_calls.proofs.HeapCells.{free_in_front}
use Rattle.reference_calls.proofs.cells.highest_free.Given as goal

abbrev pub invariant-loop-i : goal.invariant-loop-i
invariant-loop-i l = record {
  free : l.free ≡ free_in_front (drop l.i l.cells);
  none : model.highest_free l.k (drop l.i l.cells) ≡ None;
}
