-- What a block more or less in the list changes: its cells are free, or taken.
use Rattle.std.proofs.Common.{◌≡◌, ℕ, zero, suc, ◌+◌, ◌-◌, ◌<◌, ◌≤◌, ◌==◌, Bool, true, false, List, [], ◌∷◌, ◌++◌, length, take, drop}
use Rattle.std.proofs.Common.{append_assoc, refl, sym, ap, ◌∙◌, subst, arith}
use Rattle.std.specs.Prelude.{replicate}
use Rattle.std.proofs.lemmas.Bool.{cond_both, eqb-true, eqb-false}
use Rattle.std.proofs.Math.Seq.{take-append_seam, drop-append-add}
use Rattle.xinu_model.specs.Heap.Cells.{marked, begins_with}
use Rattle.xinu_model.proofs.Heap.{drop_equal}
use Rattle.freelist_memory.specs.Blocks.{block_at, cells_of, AreBlocks, unless_empty}
use Rattle.freelist_memory.specs.declared.blocks.FreeBlock.{FreeBlock}
use Rattle.freelist_memory.proofs.Cells.{AreWithin, blocks_order, cells_later, cells_parts, cells_length, cells_joined}
use Rattle.freelist_memory.proofs.Order.{within_lower, within_higher, within_joined, within_blocks, blocks_split, blocks_joined}
use Rattle.freelist_memory.proofs.Order.{blocks_lower, blocks_around}

-- k cells in the middle of a list are marked
marked_middle : (kind other : Bool) (p q : List Bool) (k start : ℕ) → length p ≡ start
    → marked kind start k (p ++ (replicate k other ++ q)) ≡ p ++ (replicate k kind ++ q)
marked_middle kind other p q k start e =
    let whole = p ++ (replicate k other ++ q) in
    let front : take start whole ≡ p = ap (λ n. take n whole) (sym e) ∙ take-append_seam p (replicate k other ++ q) in
    let back : drop (start + k) whole ≡ q =
    ap (λ n. drop (n + k) whole) (sym e) ∙ drop-append-add p (replicate k other ++ q) k ∙ drop_equal k other q in
    ap (λ l. l ++ replicate k kind ++ drop (start + k) whole) front
    ∙ ap (λ l. p ++ replicate k kind ++ l) back
    ∙ append_assoc p (replicate k kind) q

-- the cells of a list with a block
cells_with : (first k : ℕ) (pre bs : List FreeBlock) (last : ℕ) → AreWithin 0 pre first → AreWithin (first + k) bs last
    → cells_of 0 (pre ++ record { first = first; count = k } ∷ bs) last
    ≡ cells_of 0 pre first ++ (replicate k true ++ cells_of (first + k) bs last)
cells_with first k pre bs last h g =
    cells_parts 0 first pre (record { first = first; count = k } ∷ bs) last h (let w : first ≤ first = omega arith in (w, g))
    ∙ ap (λ n. cells_of 0 pre first ++ (replicate n false ++ (replicate k true ++ cells_of (first + k) bs last)))
    (let e : first - first ≡ 0 = omega arith in e)

-- and without it
cells_without : (first k : ℕ) (pre bs : List FreeBlock) (last : ℕ) → AreWithin 0 pre first → AreWithin (first + k) bs last
    → cells_of 0 (pre ++ bs) last ≡ cells_of 0 pre first ++ (replicate k false ++ cells_of (first + k) bs last)
cells_without first k pre bs last h g =
    cells_parts 0 first pre bs last h (within_lower first (first + k) bs last (omega arith) g)
    ∙ ap (λ l. cells_of 0 pre first ++ l) (cells_later first (first + k) bs last (omega arith) g)
    ∙ ap (λ n. cells_of 0 pre first ++ (replicate n false ++ cells_of (first + k) bs last))
    (let e : first + k - first ≡ k = omega arith in e)

-- the cells before a block are as many as its first
cells_before : (first : ℕ) (pre : List FreeBlock) → AreWithin 0 pre first → length (cells_of 0 pre first) ≡ first
cells_before first pre h = let e = cells_length 0 pre first h in omega arith

-- A list without a block: its cells are taken.
pub block_taken : (first k : ℕ) (pre bs : List FreeBlock) (last : ℕ) → AreWithin 0 pre first → AreWithin (first + k) bs last
    → cells_of 0 (pre ++ bs) last ≡ marked false first k (cells_of 0 (pre ++ record { first = first; count = k } ∷ bs) last)
block_taken first k pre bs last h g =
    cells_without first k pre bs last h g
    ∙ sym (marked_middle false true (cells_of 0 pre first) (cells_of (first + k) bs last) k first (cells_before first pre h))
    ∙ sym (ap (marked false first k) (cells_with first k pre bs last h g))

-- A list with a block: its cells are free.
pub block_freed : (first k : ℕ) (pre bs : List FreeBlock) (last : ℕ) → AreWithin 0 pre first → AreWithin (first + k) bs last
    → cells_of 0 (pre ++ record { first = first; count = k } ∷ bs) last ≡ marked true first k (cells_of 0 (pre ++ bs) last)
block_freed first k pre bs last h g =
    cells_with first k pre bs last h g
    ∙ sym (marked_middle true false (cells_of 0 pre first) (cells_of (first + k) bs last) k first (cells_before first pre h))
    ∙ sym (ap (marked true first k) (cells_without first k pre bs last h g))

-- a row of cells begins with as many
begins_row : (kind : Bool) (k : ℕ) (l : List Bool) → begins_with kind k (replicate k kind ++ l) ≡ true
begins_row kind zero l = refl
begins_row true (suc k) l = begins_row true k l
begins_row false (suc k) l = begins_row false k l

-- The cells between two parts of a list are taken.
pub gap_taken : (first k : ℕ) (pre bs : List FreeBlock) (last : ℕ) → AreWithin 0 pre first → AreWithin (first + k) bs last
    → begins_with false k (drop first (cells_of 0 (pre ++ bs) last)) ≡ true
gap_taken first k pre bs last h g =
    let p = cells_of 0 pre first in
    let q = cells_of (first + k) bs last in
    let e = cells_before first pre h in
    let zero_more : length p + 0 ≡ first = omega arith in
    ap (λ l. begins_with false k (drop first l)) (cells_without first k pre bs last h g)
    ∙ ap (λ n. begins_with false k (drop n (p ++ (replicate k false ++ q)))) (sym zero_more)
    ∙ ap (begins_with false k) (drop-append-add p (replicate k false ++ q) 0)
    ∙ begins_row false k q

-- a block without cells is no block
kept_cells : (b : FreeBlock) (pre bs : List FreeBlock) (last : ℕ) → AreWithin 0 pre b.first → AreWithin (b.first + b.count) bs last
    → cells_of 0 (pre ++ unless_empty b bs) last ≡ cells_of 0 (pre ++ b ∷ bs) last
kept_cells b pre bs last h g =
    cond_both (b.count == 0) bs (b ∷ bs) (λ l. cells_of 0 (pre ++ l) last ≡ cells_of 0 (pre ++ b ∷ bs) last)
    (λ t. cells_without b.first b.count pre bs last h g
    ∙ ap (λ n. cells_of 0 pre b.first ++ (replicate n false ++ cells_of (b.first + b.count) bs last)) (eqb-true b.count 0 t)
    ∙ sym (ap (λ n. cells_of 0 pre b.first ++ (replicate n true ++ cells_of (b.first + b.count) bs last)) (eqb-true b.count 0 t))
    ∙ sym (cells_with b.first b.count pre bs last h g))
    (λ _. refl)

-- what is kept of a block is in order
kept_blocks : (from : ℕ) (b : FreeBlock) (bs : List FreeBlock) (to : ℕ) → from ≤ b.first → AreBlocks (b.first + b.count + 1) bs to
    → AreBlocks from (unless_empty b bs) to
kept_blocks from b bs to w h =
    cond_both (b.count == 0) bs (b ∷ bs) (λ l. AreBlocks from l to)
    (λ _. blocks_lower from (b.first + b.count + 1) bs to (omega arith) h)
    (λ t. let e = eqb-false b.count 0 t in (w, omega arith, h))

-- What is left of a block above the cells that were taken of it.
abbrev pub rest_above : ℕ → FreeBlock → FreeBlock
rest_above k b = record { first = b.first + k; count = b.count - k }

-- What is left of it below them.
abbrev pub rest_below : ℕ → FreeBlock → FreeBlock
rest_below k b = record { first = b.first; count = b.count - k }

-- What holds of a list whose block was cut: it is in order, and k cells are taken.
pub record IsCut (bs new : List FreeBlock) (start k last : ℕ) : Type 0 where
  pub blocks : AreBlocks 0 new (last + 1)
  pub cells : cells_of 0 new last ≡ marked false start k (cells_of 0 bs last)

-- a block is cut at its low end
cut_low_parts : (k last : ℕ) (b : FreeBlock) (pre bs : List FreeBlock) → k ≤ b.count → AreBlocks 0 (pre ++ b ∷ bs) (last + 1)
    → IsCut (pre ++ b ∷ bs) (pre ++ unless_empty (rest_above k b) bs) b.first k last
cut_low_parts k last b pre bs w h =
    let parts = blocks_split 0 pre b bs (last + 1) h in
    let high = parts.1.2 in
    let some = parts.1.1 in
    let e : b.first + k + (b.count - k) ≡ b.first + b.count = omega arith in
    let f : k + (b.count - k) ≡ b.count = omega arith in
    let P : ℕ → Type 0 = λ n. AreBlocks (n + 1) bs (last + 1) in
    let high_rest : AreBlocks (b.first + k + (b.count - k) + 1) bs (last + 1) = subst P (sym e) high in
    let within : AreWithin 0 pre b.first = within_blocks 0 0 pre b.first b.first (omega arith) (omega arith) (omega arith) parts.0 in
    let above : AreWithin (b.first + k) (rest_above k b ∷ bs) last = (
      omega arith,
      within_blocks (b.first + k + (b.count - k)) (b.first + k + (b.count - k) + 1) bs (last + 1) last (omega arith)
          (let o = blocks_order (b.first + k + (b.count - k) + 1) bs (last + 1) high_rest in omega arith) (omega arith) high_rest,
    )
    in
    record {
      blocks =
          blocks_joined 0 b.first pre (unless_empty (rest_above k b) bs) (last + 1) parts.0
          (kept_blocks b.first (rest_above k b) bs (last + 1) (omega arith) high_rest);
      cells =
          kept_cells (rest_above k b) pre bs last (within_higher 0 pre b.first (b.first + k) (omega arith) within) above.1
          ∙ block_taken b.first k pre (rest_above k b ∷ bs) last within above
          ∙ ap (marked false b.first k) (cells_joined 0 b.first k (b.count - k) pre bs last)
          ∙ ap (λ n. marked false b.first k (cells_of 0 (pre ++ record { first = b.first; count = n } ∷ bs) last)) f;
    }

-- a block is cut at its high end
cut_high_parts : (k last : ℕ) (b : FreeBlock) (pre bs : List FreeBlock) → k ≤ b.count → AreBlocks 0 (pre ++ b ∷ bs) (last + 1)
    → IsCut (pre ++ b ∷ bs) (pre ++ unless_empty (rest_below k b) bs) (b.first + (b.count - k)) k last
cut_high_parts k last b pre bs w h =
    let parts = blocks_split 0 pre b bs (last + 1) h in
    let high = parts.1.2 in
    let m = b.count - k in
    let f : b.count - k + k ≡ b.count = omega arith in
    let e : b.first + (b.count - k) + k ≡ b.first + b.count = omega arith in
    let order = blocks_order (b.first + b.count + 1) bs (last + 1) high in
    let high_rest : AreBlocks (b.first + (b.count - k) + 1) bs (last + 1) =
    blocks_lower (b.first + (b.count - k) + 1) (b.first + b.count + 1) bs (last + 1) (omega arith) high in
    let within : AreWithin 0 pre b.first = within_blocks 0 0 pre b.first b.first (omega arith) (omega arith) (omega arith) parts.0 in
    let after : AreWithin (b.first + (b.count - k)) bs last =
    within_blocks (b.first + (b.count - k)) (b.first + (b.count - k) + 1) bs (last + 1) last (omega arith) (omega arith) (omega arith)
    high_rest in
    let above : AreWithin (b.first + (b.count - k) + k) bs last =
    within_blocks (b.first + (b.count - k) + k) (b.first + b.count + 1) bs (last + 1) last (omega arith) (omega arith) (omega arith)
    high in
    let below : AreWithin 0 (pre ++ rest_below k b ∷ []) (b.first + (b.count - k)) =
    within_joined 0 b.first pre (rest_below k b ∷ []) (b.first + (b.count - k))
    within (let w : b.first ≤ b.first = omega arith in let v : b.first + (b.count - k) ≤ b.first + (b.count - k) = omega arith in
    (w, v))
    in
    record {
      blocks =
          blocks_joined 0 b.first pre (unless_empty (rest_below k b) bs) (last + 1) parts.0
          (kept_blocks b.first (rest_below k b) bs (last + 1) (omega arith) high_rest);
      cells =
          kept_cells (rest_below k b) pre bs last within after
          ∙ ap (λ l. cells_of 0 l last) (sym (append_assoc pre (rest_below k b ∷ []) bs))
          ∙ block_taken (b.first + (b.count - k)) k (pre ++ rest_below k b ∷ []) bs last below above
          ∙ ap (λ l. marked false (b.first + (b.count - k)) k (cells_of 0 l last))
          (append_assoc pre (rest_below k b ∷ []) (record { first = b.first + (b.count - k); count = k } ∷ bs))
          ∙ ap (marked false (b.first + (b.count - k)) k) (cells_joined 0 b.first (b.count - k) k pre bs last)
          ∙ ap (λ n. marked false (b.first + (b.count - k)) k (cells_of 0 (pre ++ record { first = b.first; count = n } ∷ bs) last)) f;
    }

-- What is cut off a list at the block at i, seen from the list itself.
of_parts : (bs : List FreeBlock) (i start k last : ℕ) (new : List FreeBlock) → i < length bs
    → (AreBlocks 0 (take i bs ++ block_at bs i ∷ drop (suc i) bs) (last + 1)
    → IsCut (take i bs ++ block_at bs i ∷ drop (suc i) bs) new start k last)
    → AreBlocks 0 bs (last + 1) → IsCut bs new start k last
of_parts bs i start k last new w cut h =
    let P : List FreeBlock → Type 0 = λ l. AreBlocks 0 l (last + 1) in
    let Q : List FreeBlock → Type 0 = λ l. IsCut l new start k last in
    subst Q (sym (blocks_around bs i w)) (cut (subst P (blocks_around bs i w) h))

-- k cells are taken from the low end of the block at i.
pub cut_low : (k last : ℕ) (bs : List FreeBlock) (i : ℕ) → i < length bs → k ≤ (block_at bs i).count → AreBlocks 0 bs (last + 1)
    → IsCut bs (take i bs ++ unless_empty (rest_above k (block_at bs i)) (drop (suc i) bs)) (block_at bs i).first k last
cut_low k last bs i w v h =
    of_parts bs i (block_at bs i).first k last (take i bs ++ unless_empty (rest_above k (block_at bs i)) (drop (suc i) bs)) w
    (cut_low_parts k last (block_at bs i) (take i bs) (drop (suc i) bs) v) h

-- k cells are taken from the high end of the block at i.
pub cut_high : (k last : ℕ) (bs : List FreeBlock) (i : ℕ) → i < length bs → k ≤ (block_at bs i).count → AreBlocks 0 bs (last + 1)
    → IsCut bs (take i bs ++ unless_empty (rest_below k (block_at bs i)) (drop (suc i) bs))
    ((block_at bs i).first + ((block_at bs i).count - k)) k last
cut_high k last bs i w v h =
    of_parts bs i ((block_at bs i).first + ((block_at bs i).count - k)) k last
    (take i bs ++ unless_empty (rest_below k (block_at bs i)) (drop (suc i) bs)) w
    (cut_high_parts k last (block_at bs i) (take i bs) (drop (suc i) bs) v) h

-- The cells around a block of a list.
pub cells_around : (bs : List FreeBlock) (i last : ℕ) → i < length bs → AreBlocks 0 bs (last + 1)
    → (cells_of 0 bs last
    ≡ cells_of 0 (take i bs) (block_at bs i).first
    ++ (replicate (block_at bs i).count true ++ cells_of ((block_at bs i).first + (block_at bs i).count) (drop (suc i) bs) last))
    × (length (cells_of 0 (take i bs) (block_at bs i).first) ≡ (block_at bs i).first)
cells_around bs i last w h =
    let b = block_at bs i in
    let P : List FreeBlock → Type 0 = λ l. AreBlocks 0 l (last + 1) in
    let parts = blocks_split 0 (take i bs) b (drop (suc i) bs) (last + 1) (subst P (blocks_around bs i w) h) in
    let order = blocks_order (b.first + b.count + 1) (drop (suc i) bs) (last + 1) parts.1.2 in
    let before = within_blocks 0 0 (take i bs) b.first b.first (omega arith) (omega arith) (omega arith) parts.0 in
    let after =
    within_blocks (b.first + b.count) (b.first + b.count + 1) (drop (suc i) bs) (last + 1) last (omega arith) (omega arith)
    (omega arith) parts.1.2 in (
      ap (λ l. cells_of 0 l last) (blocks_around bs i w)
          ∙ cells_with b.first b.count (take i bs) (drop (suc i) bs) last before after,
      cells_before b.first (take i bs) before,
    )
