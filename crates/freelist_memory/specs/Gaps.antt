-- The room that a list of blocks leaves at a place for a block of its own.
use Rattle.std.specs.Prelude.{◌≡◌, ℕ, zero, suc, ◌+◌, ◌/◌, ◌<◌, ◌≤◌, List, [], ◌∷◌, length, true}
use Rattle.xinu_model.specs.Heap.Cells.{marked}
use Rattle.freelist_memory.specs.Blocks.{block_at, cells_of, AreBlocks}
use Rattle.freelist_memory.specs.declared.blocks.FreeBlock.{FreeBlock}
use Rattle.freelist_memory.specs.declared.blocks.Gap.{Gap}

-- the least cell at which a block at a place doesn't touch the one before it
abbrev pub floor_at : ℕ → List FreeBlock → ℕ
floor_at zero bs = 0
floor_at (suc i) bs = (block_at bs i).first + (block_at bs i).count + 1

-- where the block at a place begins, or where one would begin after all cells
abbrev pub ceiling_at : ℕ → List FreeBlock → ℕ → ℕ
ceiling_at i [] none = none
ceiling_at zero (b ∷ bs) none = b.first
ceiling_at (suc i) (b ∷ bs) none = ceiling_at i bs none

-- The k cells from `first` on are between the blocks before a place and those from it on.
pub record IsGap (bs : List FreeBlock) (at first k last : ℕ) : Type 0 where
  pub place : at ≤ length bs
  pub some : 0 < k
  pub low : floor_at at bs ≤ first + 1
  pub high : first + k ≤ ceiling_at at bs (last + 1)
  pub within : first + k ≤ last
  pub blocks : AreBlocks 0 bs (last + 1)

-- A block fits into a gap of a list, and there is a record for each block that there can be.
pub record Fits (bs : List FreeBlock) (g : Gap) (b : FreeBlock) (capacity last : ℕ) : Type 0 where
  pub gap : IsGap bs g.at b.first b.count last
  pub low : g.low ≡ floor_at g.at bs
  pub high : g.high ≡ ceiling_at g.at bs (last + 1)
  pub room : last / 2 + 1 ≤ capacity
  pub few : last ≤ 131072

-- The blocks are in order with these cells, which are free now.
pub record IsGiven (bs new : List FreeBlock) (first k last : ℕ) : Type 0 where
  pub blocks : AreBlocks 0 new (last + 1)
  pub cells : cells_of 0 new last ≡ marked true first k (cells_of 0 bs last)
