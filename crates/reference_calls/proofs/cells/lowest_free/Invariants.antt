-- The cells from the start up to here are free and fewer than k, and what is found from the start on is what the whole finds.
use Rattle.std.proofs.Common.{◌≡◌, ◌+◌, ◌-◌, ◌<◌, ◌≤◌, drop, true}
use Rattle.std.specs.Prelude.{option_map}
use Rattle.xinu_model.specs.Heap.Cells as model
use Rattle.reference_calls.proofs.cells.lowest_free.Given as goal

abbrev pub invariant-loop-i : goal.invariant-loop-i
invariant-loop-i l = record {
  before : l.start ≤ l.i;
  fewer : l.i < l.start + l.k;
  free : model.begins_with true (l.i - l.start) (drop l.start l.cells) ≡ true;
  found : option_map (λ j. l.start + j) (model.lowest_free l.k (drop l.start l.cells)) ≡ model.lowest_free l.k l.cells;
}
