-- Lists of blocks in order: parts of one, two joined, and how long one is.
use Rattle.std.proofs.Common.{◌≡◌, ℕ, zero, suc, ◌+◌, ◌*◌, ◌<◌, ◌≤◌, ◌==◌, false, List, [], ◌∷◌, ◌++◌, length, take, drop, refl, sym, ap}
use Rattle.std.proofs.Common.{◌∙◌, add-one, arith}
use Rattle.std.specs.Prelude.{slice_set}
use Rattle.std.proofs.Math.Seq.{drop-cons}
use Rattle.std.proofs.lemmas.List.{take-append-drop}
use Rattle.freelist_memory.specs.Blocks.{block_at, AreBlocks, unless_empty}
use Rattle.freelist_memory.proofs.Cells.{AreWithin, blocks_order}
use Rattle.freelist_memory.specs.declared.blocks.FreeBlock.{FreeBlock}

-- the least block may begin lower
pub within_lower : (at mid : ℕ) (bs : List FreeBlock) (last : ℕ) → at ≤ mid → AreWithin mid bs last → AreWithin at bs last
within_lower at mid [] last w h = omega arith
within_lower at mid (b ∷ bs) last w h = (let v = h.0 in omega arith, h.1)

-- and the last cell may be higher
pub within_higher : (at : ℕ) (bs : List FreeBlock) (last top : ℕ) → last ≤ top → AreWithin at bs last → AreWithin at bs top
within_higher at [] last top w h = omega arith
within_higher at (b ∷ bs) last top w h = (h.0, within_higher (b.first + b.count) bs last top w h.1)

-- the same of blocks with cells between
pub blocks_lower : (from mid : ℕ) (bs : List FreeBlock) (to : ℕ) → from ≤ mid → AreBlocks mid bs to → AreBlocks from bs to
blocks_lower from mid [] to w h = omega arith
blocks_lower from mid (b ∷ bs) to w h = (let v = h.0 in omega arith, h.1, h.2)

-- Blocks with cells between are in order.
pub within_blocks : (at from : ℕ) (bs : List FreeBlock) (to last : ℕ) → at ≤ from → at ≤ last → to ≤ last + 1 → AreBlocks from bs to
    → AreWithin at bs last
within_blocks at from [] to last w v t h = v
within_blocks at from (b ∷ bs) to last w v t h =
    let low = h.0 in
    let high = blocks_order (b.first + b.count + 1) bs to h.2 in
    (omega arith, within_blocks (b.first + b.count) (b.first + b.count + 1) bs to last (omega arith) (omega arith) t h.2)

-- A list in two parts: those before a block, and the others.
pub blocks_split : (from : ℕ) (pre : List FreeBlock) (b : FreeBlock) (bs : List FreeBlock) (to : ℕ) → AreBlocks from (pre ++ b ∷ bs) to
    → AreBlocks from pre b.first × AreBlocks b.first (b ∷ bs) to
blocks_split from [] b bs to h = (h.0, (omega arith, h.1, h.2))
blocks_split from (a ∷ pre) b bs to h =
    let rest = blocks_split (a.first + a.count + 1) pre b bs to h.2 in
    ((h.0, h.1, rest.0), rest.1)

-- Two lists joined.
pub blocks_joined : (from mid : ℕ) (pre bs : List FreeBlock) (to : ℕ) → AreBlocks from pre mid → AreBlocks mid bs to
    → AreBlocks from (pre ++ bs) to
blocks_joined from mid [] bs to h g = blocks_lower from mid bs to h g
blocks_joined from mid (b ∷ pre) bs to h g = (h.0, h.1, blocks_joined (b.first + b.count + 1) mid pre bs to h.2 g)

-- Two lists that may touch, joined.
pub within_joined : (at mid : ℕ) (pre bs : List FreeBlock) (last : ℕ) → AreWithin at pre mid → AreWithin mid bs last
    → AreWithin at (pre ++ bs) last
within_joined at mid [] bs last h g = within_lower at mid bs last h g
within_joined at mid (b ∷ pre) bs last h g = (h.0, within_joined (b.first + b.count) mid pre bs last h.1 g)

-- There is at most one block for two cells.
pub blocks_length : (from : ℕ) (bs : List FreeBlock) (to : ℕ) → AreBlocks from bs to → 2 * length bs + from ≤ to
blocks_length from [] to h = omega arith
blocks_length from (b ∷ bs) to h =
    let low = h.0 in
    let some = h.1 in
    let rest = blocks_length (b.first + b.count + 1) bs to h.2 in
    omega arith

-- A list around its block at i.
pub blocks_around : (bs : List FreeBlock) (i : ℕ) → i < length bs → bs ≡ take i bs ++ block_at bs i ∷ drop (suc i) bs
blocks_around bs i h = sym (take-append-drop i bs) ∙ ap (λ l. take i bs ++ l) (drop-cons bs i (record { first = 0; count = 0 }) h)

-- A block doesn't begin below the first.
pub block_order : (from : ℕ) (bs : List FreeBlock) (to i : ℕ) → AreBlocks from bs to → i < length bs → from ≤ (block_at bs i).first
block_order from [] to i h w = absurd (omega arith)
block_order from (b ∷ bs) to zero h w = h.0
block_order from (b ∷ bs) to (suc i) h w =
    let low = h.0 in
    let rest = block_order (b.first + b.count + 1) bs to i h.2 (omega arith) in
    omega arith

-- A block ends below where all do.
pub block_end : (from : ℕ) (bs : List FreeBlock) (to i : ℕ) → AreBlocks from bs to → i < length bs
    → (block_at bs i).first + (block_at bs i).count < to
block_end from [] to i h w = absurd (omega arith)
block_end from (b ∷ bs) to zero h w = let v = blocks_order (b.first + b.count + 1) bs to h.2 in omega arith
block_end from (b ∷ bs) to (suc i) h w = block_end (b.first + b.count + 1) bs to i h.2 (omega arith)

-- A list whose block at i is another.
pub set_around : (bs : List FreeBlock) (i : ℕ) (b : FreeBlock) → i < length bs → slice_set bs i b ≡ take i bs ++ b ∷ drop (suc i) bs
set_around [] i b w = absurd (omega arith)
set_around (a ∷ bs) zero b w = refl
set_around (a ∷ bs) (suc i) b w = ap (λ l. a ∷ l) (set_around bs i b (omega arith))

-- What is left of a block takes its place, if it has a cell.
pub set_rest : (bs : List FreeBlock) (i : ℕ) (b : FreeBlock) → i < length bs → (b.count == 0) ≡ false
    → slice_set bs i b ≡ take i bs ++ unless_empty b (drop (i + 1) bs)
set_rest bs i b w some = rw some (set_around bs i b w ∙ ap (λ j. take i bs ++ b ∷ drop j bs) (sym (add-one i)))

-- A block has a cell.
pub block_some : (from : ℕ) (bs : List FreeBlock) (to i : ℕ) → AreBlocks from bs to → i < length bs → 0 < (block_at bs i).count
block_some from [] to i h w = absurd (omega arith)
block_some from (b ∷ bs) to zero h w = h.1
block_some from (b ∷ bs) to (suc i) h w = block_some (b.first + b.count + 1) bs to i h.2 (omega arith)
