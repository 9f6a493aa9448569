-- The blocks are those of the cells from here on.
use Rattle.std.proofs.Common.{◌≡◌, ◌+◌, ◌*◌, drop}
use Rattle.xinu_model.specs.Heap.Cells as cells
use Rattle.reference_boot.specs.FirstBlocks.{FirstWithin}
use Rattle.reference_boot.proofs.dump.memory.free_blocks.Given as goal

abbrev pub invariant-loop-i : goal.invariant-loop-i
invariant-loop-i l =
    FirstWithin 1048576 l.blocks.items
    × (l.blocks.items ≡ cells.blocks_from (l.heap.low + 8 * l.i) (drop l.i l.heap.cells))
