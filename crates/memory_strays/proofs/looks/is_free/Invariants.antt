-- It is in a free block if it is in one of those that are left.
use Rattle.std.proofs.Common.{◌≡◌, ◌-◌, ◌≤◌}
use Rattle.std.specs.List.{list_any}
use Rattle.freelist_memory.proofs.Rest.{blocks_above}
use Rattle.memory_strays.specs.Looks.{is_free, is_in_block}
use Rattle.xinu_model.specs.Heap.Cells.{free_blocks}
use Rattle.memory_strays.proofs.looks.is_free.Given as goal

abbrev pub invariant-loop-start : goal.invariant-loop-start
invariant-loop-start l = record {
  inside : l.from ≤ 1048576;
  left : is_free l.heap l.address ≡ list_any (is_in_block l.address) (blocks_above l.from (free_blocks l.heap));
}

abbrev pub decreases-loop-start : goal.decreases-loop-start
decreases-loop-start l = 1048576 - l.from
