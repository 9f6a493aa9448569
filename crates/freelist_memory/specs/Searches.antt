-- What the searches over a list of blocks find.
use Rattle.std.specs.Prelude.{ℕ, ◌<◌, ◌≤◌, List, length}
use Rattle.freelist_memory.specs.Blocks.{block_at}
use Rattle.freelist_memory.specs.declared.blocks.FreeBlock.{FreeBlock}

-- no block has k cells
abbrev pub AreShort : ℕ → List FreeBlock → Type 0
AreShort k bs = (i : ℕ) → i < length bs → (block_at bs i).count < k

-- The block at i has k cells, and none before it has.
pub record IsLowest (k : ℕ) (bs : List FreeBlock) (i : ℕ) : Type 0 where
  pub place : i < length bs
  pub long : k ≤ (block_at bs i).count
  pub before : (j : ℕ) → j < i → (block_at bs j).count < k

-- The block at i has k cells, and none after it has.
pub record IsHighest (k : ℕ) (bs : List FreeBlock) (i : ℕ) : Type 0 where
  pub place : i < length bs
  pub long : k ≤ (block_at bs i).count
  pub after : (j : ℕ) → i < j → j < length bs → (block_at bs j).count < k

-- The first i blocks begin below a cell, and the next one, if there is one, doesn't.
pub record AreBelow (cell : ℕ) (bs : List FreeBlock) (i : ℕ) : Type 0 where
  pub within : i ≤ length bs
  pub below : (j : ℕ) → j < i → (block_at bs j).first < cell
  pub next : i < length bs → cell ≤ (block_at bs i).first
