-- What a taking of cells shows: where they were found, and what is left.
use Rattle.std.proofs.Common.{◌≡◌, ℕ, ◌+◌, ◌-◌, ◌<◌, ◌≤◌, List, ◌++◌, length, take, drop, get_or, Some, sym, ap, ◌∙◌, subst, add-one, arith}
use Rattle.std.proofs.lemmas.List.{get_or_default}
use Rattle.xinu_model.specs.Heap.Cells.{lowest_free, highest_free}
use Rattle.freelist_memory.specs.Blocks.{block_at, cells_of, AreBlocks, unless_empty}
use Rattle.freelist_memory.specs.Searches.{IsLowest, IsHighest}
use Rattle.freelist_memory.specs.declared.blocks.FreeBlock.{FreeBlock}
use Rattle.freelist_memory.proofs.Changes.{IsCut, rest_above, rest_below, cut_low, cut_high}
use Rattle.freelist_memory.proofs.Found.{lowest_found, highest_found}
use Rattle.freelist_memory.proofs.Cells.{cells_length}
use Rattle.freelist_memory.proofs.Order.{block_end, within_blocks}

-- A block that was read is the list's.
pub block_read : (bs : List FreeBlock) (i : ℕ) (b : FreeBlock) → i < length bs → b ≡ get_or bs i b → b ≡ block_at bs i
block_read bs i b w e = e ∙ get_or_default bs i b (record { first = 0; count = 0 }) w

-- Cells taken at the low end of the lowest block that is long enough: they are in the heap, the search finds them, and they are taken.
pub record IsLowTaken (k last : ℕ) (bs : List FreeBlock) (b : FreeBlock) (new : List FreeBlock) : Type 0 where
  pub within : b.first + k ≤ last
  pub found : lowest_free k (cells_of 0 bs last) ≡ Some b.first
  pub cut : IsCut bs new b.first k last

-- The same at the high end of the highest.
pub record IsHighTaken (k last : ℕ) (bs : List FreeBlock) (b : FreeBlock) (new : List FreeBlock) : Type 0 where
  pub within : b.first + (b.count - k) + k ≤ last
  pub found : highest_free k (cells_of 0 bs last) ≡ Some (b.first + (b.count - k))
  pub cut : IsCut bs new (b.first + (b.count - k)) k last

-- How far a block goes that is long enough.
pub read_end : (k last : ℕ) (bs : List FreeBlock) (i : ℕ) (b : FreeBlock) → i < length bs → k ≤ (block_at bs i).count → b ≡ get_or bs i b
    → AreBlocks 0 bs (last + 1)
    → (b.first + b.count ≤ last) × (k ≤ b.count)
read_end k last bs i b w long e h =
    let P : FreeBlock → Type 0 = λ a. (a.first + a.count ≤ last) × (k ≤ a.count) in
    let end = block_end 0 bs (last + 1) i h w in
    subst P (sym (block_read bs i b w e)) (omega arith, long)

-- What was taken at the low end.
pub low_taken : (k last : ℕ) (bs : List FreeBlock) (i : ℕ) (b : FreeBlock) (new : List FreeBlock) → 0 < k → IsLowest k bs i
    → b ≡ get_or bs i b → AreBlocks 0 bs (last + 1)
    → new ≡ take i bs ++ unless_empty (rest_above k b) (drop (i + 1) bs) → IsLowTaken k last bs b new
low_taken k last bs i b new z f e h n =
    let P : FreeBlock → Type 0 =
    λ a. (l : List FreeBlock) → l ≡ take i bs ++ unless_empty (rest_above k a) (drop (i + 1) bs) → IsLowTaken k last bs a l in
    let Q : List FreeBlock → Type 0 = λ l. IsCut bs l (block_at bs i).first k last in
    let end = block_end 0 bs (last + 1) i h f.place in
    let long = f.long in
    subst P (sym (block_read bs i b f.place e)) (λ l m. record {
      within = omega arith;
      found = lowest_found k 0 0 bs (last + 1) last i (block_at bs i).first z (omega arith) h f (omega arith);
      cut =
          subst Q (sym (m ∙ ap (λ j. take i bs ++ unless_empty (rest_above k (block_at bs i)) (drop j bs)) (add-one i)))
          (cut_low k last bs i f.place f.long h);
    }) new n

-- What was taken at the high end.
pub high_taken : (k last : ℕ) (bs : List FreeBlock) (i : ℕ) (b : FreeBlock) (new : List FreeBlock) → 0 < k → IsHighest k bs i
    → b ≡ get_or bs i b → AreBlocks 0 bs (last + 1)
    → new ≡ take i bs ++ unless_empty (rest_below k b) (drop (i + 1) bs) → IsHighTaken k last bs b new
high_taken k last bs i b new z f e h n =
    let P : FreeBlock → Type 0 =
    λ a. (l : List FreeBlock) → l ≡ take i bs ++ unless_empty (rest_below k a) (drop (i + 1) bs) → IsHighTaken k last bs a l in
    let Q : List FreeBlock → Type 0 = λ l. IsCut bs l ((block_at bs i).first + ((block_at bs i).count - k)) k last in
    let end = block_end 0 bs (last + 1) i h f.place in
    let long = f.long in
    subst P (sym (block_read bs i b f.place e)) (λ l m. record {
      within = omega arith;
      found =
          highest_found k 0 0 bs (last + 1) last i ((block_at bs i).first + ((block_at bs i).count - k)) z (omega arith) h f (omega arith);
      cut =
          subst Q (sym (m ∙ ap (λ j. take i bs ++ unless_empty (rest_below k (block_at bs i)) (drop j bs)) (add-one i)))
          (cut_high k last bs i f.place f.long h);
    }) new n

-- A free list has as many cells as it is made for.
pub cells_many : (bs : List FreeBlock) (last : ℕ) → AreBlocks 0 bs (last + 1) → length (cells_of 0 bs last) ≡ last
cells_many bs last h =
    let e = cells_length 0 bs last (within_blocks 0 0 bs (last + 1) last (omega arith) (omega arith) (omega arith) h) in
    omega arith
