-- What a free list keeps true.
use Rattle.std.specs.Prelude.{◌+◌, ◌/◌, ◌≤◌, vec_capacity}
use Rattle.freelist_memory.specs.Blocks.{AreBlocks}
use Rattle.freelist_memory.specs.declared.list.FreeList.TheInside.{Inside}

-- The blocks are those of the cells, in order, and there is a record for each that there can be.
pub record IsFreeList (l : Inside) : Type 0 where
  pub blocks : AreBlocks 0 l.blocks.items (l.cells + 1)
  pub room : l.cells / 2 + 1 ≤ vec_capacity l.blocks
  pub few : l.cells ≤ 131072
