-- The free list: blocks of free cells by place, with a taken cell between any two.
use Rattle.std.specs.Prelude.{ℕ, ◌+◌, ◌-◌, ◌*◌, ◌<◌, ◌≤◌, Bool, true, false, List, [], ◌∷◌, ◌++◌, replicate, slice_index_or, ◌==◌}
use Rattle.std.specs.Prelude.{if◌then◌else◌}
use Rattle.freelist_memory.specs.declared.blocks.FreeBlock.{FreeBlock}

-- the block at a place of the list
abbrev pub block_at : List FreeBlock → ℕ → FreeBlock
block_at bs i = slice_index_or bs i (record { first = 0; count = 0 })

-- the cells from `at` up to `last`, of which those of the blocks are free
abbrev pub cells_of : ℕ → List FreeBlock → ℕ → List Bool
cells_of at [] last = replicate (last - at) false
cells_of at (b ∷ bs) last = replicate (b.first - at) false ++ (replicate b.count true ++ cells_of (b.first + b.count) bs last)

-- Each block has a cell, the first begins at `from` or above, each other one above a cell that is in none, and all end below `to`.
abbrev pub AreBlocks : ℕ → List FreeBlock → ℕ → Type 0
AreBlocks from [] to = from ≤ to
AreBlocks from (b ∷ bs) to = (from ≤ b.first) × (0 < b.count) × AreBlocks (b.first + b.count + 1) bs to

-- a block before others, unless it has no cell
abbrev pub unless_empty : FreeBlock → List FreeBlock → List FreeBlock
unless_empty b bs = if b.count == 0 then bs else b ∷ bs

-- a block by its address and its bytes, if the cells begin at `low`
abbrev pub span_of : ℕ → FreeBlock → ℕ × ℕ
span_of low b = (low + 8 * b.first, 8 * b.count)
