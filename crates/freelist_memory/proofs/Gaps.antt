-- Cells between the blocks of a list: they are taken, and what a list is that has them too. Other cells aren't taken.
use Rattle.std.proofs.Common.{◌≡◌, ℕ, zero, suc, ◌+◌, ◌-◌, ◌<◌, ◌≤◌, Bool, true, false, List, [], ◌∷◌, ◌++◌, length, take, drop}
use Rattle.std.proofs.Common.{append_assoc, refl, sym, ap, ◌∙◌, subst, arith, ◌&&◌, ◌⊎◌, inl, inr, ⊎_elim}
use Rattle.std.specs.Prelude.{nat_le, replicate, slice_set}
use Rattle.std.specs.List.{remove}
use Rattle.std.proofs.lemmas.List.{take-append-drop, length-drop, drop-drop}
use Rattle.std.proofs.Math.Seq.{drop-append-add, drop-cons, take-suc}
use Rattle.std.proofs.lemmas.Bool.{and_cases, and_parts, cases_lt, leb-false, leb-true}
use Rattle.xinu_model.specs.Heap.Cells.{begins_with, marked}
use Rattle.freelist_memory.specs.Blocks.{block_at, cells_of, AreBlocks}
use Rattle.freelist_memory.specs.Gaps.{floor_at, ceiling_at, IsGap, IsGiven}
use Rattle.freelist_memory.specs.Searches.{AreBelow}
use Rattle.freelist_memory.specs.declared.blocks.FreeBlock.{FreeBlock}
use Rattle.freelist_memory.proofs.Cells.{AreWithin, cells_joined}
use Rattle.freelist_memory.proofs.Changes.{block_freed, gap_taken, cells_around}
use Rattle.freelist_memory.proofs.Order.{within_blocks, blocks_split, blocks_joined, blocks_lower, blocks_around, block_order, block_some}
use Rattle.freelist_memory.proofs.Taken.{cells_many}

-- a place that there is
pub ceiling_in : (i : ℕ) (bs : List FreeBlock) (none : ℕ) → i < length bs → ceiling_at i bs none ≡ (block_at bs i).first
ceiling_in i [] none w = absurd (omega arith)
ceiling_in zero (b ∷ bs) none w = refl
ceiling_in (suc i) (b ∷ bs) none w = ceiling_in i bs none (omega arith)

-- a place past the end
pub ceiling_past : (i : ℕ) (bs : List FreeBlock) (none : ℕ) → length bs ≤ i → ceiling_at i bs none ≡ none
ceiling_past i [] none w = refl
ceiling_past zero (b ∷ bs) none w = absurd (omega arith)
ceiling_past (suc i) (b ∷ bs) none w = ceiling_past i bs none (omega arith)

-- The blocks before a place.
pub blocks_before : (from : ℕ) (bs : List FreeBlock) (to at m : ℕ) → AreBlocks from bs to → at ≤ length bs → from ≤ m → floor_at at bs ≤ m
    → AreBlocks from (take at bs) m
blocks_before from bs to zero m h w low v = low
blocks_before from [] to (suc at) m h w low v = low
blocks_before from (b ∷ bs) to (suc zero) m h w low v = (h.0, h.1, v)
blocks_before from (b ∷ bs) to (suc (suc i)) m h w low v =
    let order = block_order (b.first + b.count + 1) bs to i h.2 (omega arith) in
    (h.0, h.1, blocks_before (b.first + b.count + 1) bs to (suc i) m h.2 (omega arith) (omega arith) v)

-- The blocks from a place on.
pub blocks_after : (from : ℕ) (bs : List FreeBlock) (to at m : ℕ) → AreBlocks from bs to → m ≤ ceiling_at at bs to
    → AreBlocks m (drop at bs) to
blocks_after from [] to zero m h v = v
blocks_after from [] to (suc at) m h v = v
blocks_after from (b ∷ bs) to zero m h v = (v, h.1, h.2)
blocks_after from (b ∷ bs) to (suc at) m h v = blocks_after (b.first + b.count + 1) bs to at m h.2 v

-- the blocks before the cells
gap_before : (bs : List FreeBlock) (at first k last : ℕ) → IsGap bs at first k last → AreWithin 0 (take at bs) first
gap_before bs at first k last g =
    within_blocks 0 0 (take at bs) (first + 1) first (omega arith) (omega arith) (omega arith)
    (blocks_before 0 bs (last + 1) at (first + 1) g.blocks g.place (omega arith) g.low)

-- and after them
gap_after : (bs : List FreeBlock) (at first k last : ℕ) → IsGap bs at first k last → AreWithin (first + k) (drop at bs) last
gap_after bs at first k last g =
    let within = g.within in
    within_blocks (first + k) (first + k) (drop at bs) (last + 1) last (omega arith) (omega arith) (omega arith)
    (blocks_after 0 bs (last + 1) at (first + k) g.blocks g.high)

-- The cells of a gap are taken.
pub gap_begins : (bs : List FreeBlock) (at first k last : ℕ) → IsGap bs at first k last
    → begins_with false k (drop first (cells_of 0 bs last)) ≡ true
gap_begins bs at first k last g =
    ap (λ l. begins_with false k (drop first (cells_of 0 l last))) (sym (take-append-drop at bs))
    ∙ gap_taken first k (take at bs) (drop at bs) last (gap_before bs at first k last g) (gap_after bs at first k last g)

-- with a block of their own they are free
gap_freed : (bs : List FreeBlock) (at first k last : ℕ) → IsGap bs at first k last
    → cells_of 0 (take at bs ++ record { first = first; count = k } ∷ drop at bs) last ≡ marked true first k (cells_of 0 bs last)
gap_freed bs at first k last g =
    block_freed first k (take at bs) (drop at bs) last (gap_before bs at first k last g) (gap_after bs at first k last g)
    ∙ ap (λ l. marked true first k (cells_of 0 l last)) (take-append-drop at bs)

-- A gap that touches neither neighbour: a block of its own.
pub given_alone : (bs : List FreeBlock) (at first k last : ℕ) → IsGap bs at first k last → floor_at at bs ≤ first
    → first + k < ceiling_at at bs (last + 1)
    → IsGiven bs (take at bs ++ record { first = first; count = k } ∷ drop at bs) first k last
given_alone bs at first k last g low high =
    let own : first ≤ first = omega arith in
    record {
      blocks = blocks_joined 0 first (take at bs) (record { first = first; count = k } ∷ drop at bs) (last + 1)
          (blocks_before 0 bs (last + 1) at first g.blocks g.place (omega arith) low)
          (own, g.some, blocks_after 0 bs (last + 1) at (first + k + 1) g.blocks (omega arith));
      cells = gap_freed bs at first k last g;
    }

-- the block at a place, and those after it
after_block : (bs : List FreeBlock) (at : ℕ) → at < length bs → drop at bs ≡ block_at bs at ∷ drop (suc at) bs
after_block bs at w = drop-cons bs at (record { first = 0; count = 0 }) w

-- the blocks after the one at a place
blocks_past : (bs : List FreeBlock) (at to : ℕ) → at < length bs → AreBlocks 0 bs to
    → AreBlocks ((block_at bs at).first + (block_at bs at).count + 1) (drop (suc at) bs) to
blocks_past bs at to w h =
    let P : List FreeBlock → Type 0 = λ l. AreBlocks 0 l to in
    (blocks_split 0 (take at bs) (block_at bs at) (drop (suc at) bs) to (subst P (blocks_around bs at w) h)).1.2

-- and those before it
blocks_until : (bs : List FreeBlock) (at to : ℕ) → at < length bs → AreBlocks 0 bs to → AreBlocks 0 (take at bs) (block_at bs at).first
blocks_until bs at to w h =
    let P : List FreeBlock → Type 0 = λ l. AreBlocks 0 l to in
    (blocks_split 0 (take at bs) (block_at bs at) (drop (suc at) bs) to (subst P (blocks_around bs at w) h)).0

-- cells with a block that touches the next one are those of one block
cells_before_block : (bs : List FreeBlock) (at first k last : ℕ) (pre : List FreeBlock) → at < length bs
    → first + k ≡ (block_at bs at).first
    → cells_of 0 (pre ++ record { first = first; count = k + (block_at bs at).count } ∷ drop (suc at) bs) last
    ≡ cells_of 0 (pre ++ record { first = first; count = k } ∷ drop at bs) last
cells_before_block bs at first k last pre w e =
    let c = block_at bs at in
    sym (cells_joined 0 first k c.count pre (drop (suc at) bs) last)
    ∙ ap (λ n. cells_of 0 (pre ++ record { first = first; count = k } ∷ record { first = n; count = c.count } ∷ drop (suc at) bs) last) e
    ∙ ap (λ l. cells_of 0 (pre ++ record { first = first; count = k } ∷ l) last) (sym (after_block bs at w))

-- A gap that touches the block after it alone: that block, from the gap on.
pub given_below : (bs : List FreeBlock) (at first k last : ℕ) → IsGap bs at first k last → at < length bs → floor_at at bs ≤ first
    → first + k ≡ (block_at bs at).first
    → IsGiven bs (take at bs ++ record { first = first; count = k + (block_at bs at).count } ∷ drop (suc at) bs) first k last
given_below bs at first k last g w low e =
    let own : first ≤ first = omega arith in
    let some = g.some in
    record {
      blocks =
          blocks_joined 0 first (take at bs) (record { first = first; count = k + (block_at bs at).count } ∷ drop (suc at) bs) (last + 1)
          (blocks_before 0 bs (last + 1) at first g.blocks g.place (omega arith) low) (
            own,
            omega arith,
            blocks_lower (first + (k + (block_at bs at).count) + 1) ((block_at bs at).first + (block_at bs at).count + 1)
                (drop (suc at) bs) (last + 1) (omega arith) (blocks_past bs at (last + 1) w g.blocks),
          );
      cells = cells_before_block bs at first k last (take at bs) w e ∙ gap_freed bs at first k last g;
    }

-- cells with a block that touches the one before it are those of one block
cells_after_block : (bs : List FreeBlock) (i first k last : ℕ) (post : List FreeBlock) → i < length bs
    → (block_at bs i).first + (block_at bs i).count ≡ first
    → cells_of 0 (take i bs ++ record { first = (block_at bs i).first; count = (block_at bs i).count + k } ∷ post) last
    ≡ cells_of 0 (take (suc i) bs ++ record { first = first; count = k } ∷ post) last
cells_after_block bs i first k last post w e =
    let a = block_at bs i in
    sym (cells_joined 0 a.first a.count k (take i bs) post last)
    ∙ ap (λ n. cells_of 0 (take i bs ++ a ∷ record { first = n; count = k } ∷ post) last) e
    ∙ ap (λ l. cells_of 0 l last) (sym (append_assoc (take i bs) (a ∷ []) (record { first = first; count = k } ∷ post)))
    ∙ ap (λ l. cells_of 0 (l ++ record { first = first; count = k } ∷ post) last) (sym (take-suc bs i (record { first = 0; count = 0 }) w))

-- A gap that touches the block before it alone: that block, to the gap's end.
pub given_above : (bs : List FreeBlock) (i first k last : ℕ) → IsGap bs (suc i) first k last
    → (block_at bs i).first + (block_at bs i).count ≡ first → first + k < ceiling_at (suc i) bs (last + 1)
    → IsGiven bs (take i bs ++ record { first = (block_at bs i).first; count = (block_at bs i).count + k } ∷ drop (suc i) bs) first k last
given_above bs i first k last g e high =
    let a = block_at bs i in
    let own : a.first ≤ a.first = omega arith in
    let some = g.some in
    let place = g.place in
    let w : i < length bs = omega arith in
    record {
      blocks = blocks_joined 0 a.first (take i bs) (record { first = a.first; count = a.count + k } ∷ drop (suc i) bs) (last + 1)
          (blocks_until bs i (last + 1) w g.blocks)
          (own, omega arith, blocks_after 0 bs (last + 1) (suc i) (a.first + (a.count + k) + 1) g.blocks (omega arith));
      cells = cells_after_block bs i first k last (drop (suc i) bs) w e ∙ gap_freed bs (suc i) first k last g;
    }

-- A gap that touches both: one block in place of the two.
pub given_between : (bs : List FreeBlock) (i first k last : ℕ) → IsGap bs (suc i) first k last → suc i < length bs
    → (block_at bs i).first + (block_at bs i).count ≡ first → first + k ≡ (block_at bs (suc i)).first
    → IsGiven bs
    (take i bs ++ record { first = (block_at bs i).first; count = (block_at bs i).count + (k + (block_at bs (suc i)).count) }
    ∷ drop (suc (suc i)) bs)
    first k last
given_between bs i first k last g v e f =
    let a = block_at bs i in
    let c = block_at bs (suc i) in
    let own : a.first ≤ a.first = omega arith in
    let some = g.some in
    let w : i < length bs = omega arith in
    record {
      blocks =
          blocks_joined 0 a.first (take i bs) (record { first = a.first; count = a.count + (k + c.count) } ∷ drop (suc (suc i)) bs)
          (last + 1)
          (blocks_until bs i (last + 1) w g.blocks) (
            own,
            omega arith,
            blocks_lower (a.first + (a.count + (k + c.count)) + 1) (c.first + c.count + 1) (drop (suc (suc i)) bs) (last + 1)
                (omega arith) (blocks_past bs (suc i) (last + 1) v g.blocks),
          );
      cells =
          cells_after_block bs i first (k + c.count) last (drop (suc (suc i)) bs) w e
          ∙ cells_before_block bs (suc i) first k last (take (suc i) bs) v f
          ∙ gap_freed bs (suc i) first k last g;
    }

-- A list without one block, and another in the place before it.
pub set_removed : (bs : List FreeBlock) (i : ℕ) (b : FreeBlock) → suc i < length bs
    → slice_set (remove bs (suc i)) i b ≡ take i bs ++ b ∷ drop (suc (suc i)) bs
set_removed [] i b w = absurd (omega arith)
set_removed (a ∷ bs) zero b w = refl
set_removed (a ∷ bs) (suc i) b w = ap (λ l. a ∷ l) (set_removed bs i b (omega arith))

-- taken cells don't begin before a free one that is near
begins_not : (d k : ℕ) (l r : List Bool) → d < k → drop d l ≡ true ∷ r → begins_with false k l ≡ false
begins_not d zero l r w e = absurd (omega arith)
begins_not zero (suc k) l r w e = ap (begins_with false (suc k)) e
begins_not (suc d) (suc k) [] r w e = absurd (cc)
begins_not (suc d) (suc k) (true ∷ l) r w e = refl
begins_not (suc d) (suc k) (false ∷ l) r w e = begins_not d k l r (omega arith) e

-- nor are there more cells than there are
begins_past : (k : ℕ) (l : List Bool) → length l < k → begins_with false k l ≡ false
begins_past zero l w = absurd (omega arith)
begins_past (suc k) [] w = refl
begins_past (suc k) (true ∷ l) w = refl
begins_past (suc k) (false ∷ l) w = begins_past k l (omega arith)

-- Cells that go past the last aren't all taken.
pub past_begins : (bs : List FreeBlock) (first k last : ℕ) → AreBlocks 0 bs (last + 1) → 0 < k → last < first + k
    → begins_with false k (drop first (cells_of 0 bs last)) ≡ false
past_begins bs first k last h z w =
    let many = cells_many bs last h in
    let rest = length-drop first (cells_of 0 bs last) in
    begins_past k (drop first (cells_of 0 bs last)) (omega arith)

-- a cell of a row
row_at : (d c : ℕ) (l : List Bool) → d < c → (r : List Bool) × (drop d (replicate c true ++ l) ≡ true ∷ r)
row_at d zero l w = absurd (omega arith)
row_at zero (suc c) l w = (replicate c true ++ l, refl)
row_at (suc d) (suc c) l w = row_at d c l (omega arith)

-- the cell at a place of a block is free
cell_free : (bs : List FreeBlock) (i d last : ℕ) → AreBlocks 0 bs (last + 1) → i < length bs → d < (block_at bs i).count
    → (r : List Bool) × (drop ((block_at bs i).first + d) (cells_of 0 bs last) ≡ true ∷ r)
cell_free bs i d last h w v =
    let b = block_at bs i in
    let around = cells_around bs i last w h in
    let front = cells_of 0 (take i bs) b.first in
    let rest = cells_of (b.first + b.count) (drop (suc i) bs) last in
    let row = row_at d b.count rest v in (
      row.0,
      ap (drop (b.first + d)) around.0
          ∙ ap (λ n. drop (n + d) (front ++ (replicate b.count true ++ rest))) (sym around.1)
          ∙ drop-append-add front (replicate b.count true ++ rest) d
          ∙ row.1,
    )

-- Cells of which one is a block's aren't all taken.
pub meets_begins : (bs : List FreeBlock) (i first k last j : ℕ) → AreBlocks 0 bs (last + 1) → i < length bs → first ≤ j → j < first + k
    → (block_at bs i).first ≤ j → j < (block_at bs i).first + (block_at bs i).count
    → begins_with false k (drop first (cells_of 0 bs last)) ≡ false
meets_begins bs i first k last j h w low high from to =
    let free = cell_free bs i (j - (block_at bs i).first) last h w (omega arith) in
    let e : (block_at bs i).first + (j - (block_at bs i).first) ≡ first + (j - first) = omega arith in
    begins_not (j - first) k (drop first (cells_of 0 bs last)) free.0 (omega arith)
    (drop-drop (j - first) first (cells_of 0 bs last) ∙ sym (ap (λ n. drop n (cells_of 0 bs last)) e) ∙ free.1)

-- Cells that begin in a block aren't all taken.
pub low_refused : (bs : List FreeBlock) (at first k last : ℕ) → AreBlocks 0 bs (last + 1) → AreBelow first bs at → 0 < k
    → first + 1 < floor_at at bs → begins_with false k (drop first (cells_of 0 bs last)) ≡ false
low_refused bs zero first k last h b z w = absurd (omega arith)
low_refused bs (suc i) first k last h b z w =
    let within = b.within in
    let below = b.below i (omega arith) in
    meets_begins bs i first k last first h (omega arith) (omega arith) (omega arith) (omega arith) (omega arith)

-- Nor are those that go into the next one.
pub high_refused : (bs : List FreeBlock) (at first k last : ℕ) → AreBlocks 0 bs (last + 1) → AreBelow first bs at → first + k ≤ last
    → ceiling_at at bs (last + 1) < first + k → begins_with false k (drop first (cells_of 0 bs last)) ≡ false
high_refused bs at first k last h b v w =
    ⊎_elim
    (λ (p : at < length bs).
    let c = ceiling_in at bs (last + 1) p in
    let next = b.next p in
    let some = block_some 0 bs (last + 1) at h p in
    meets_begins bs at first k last (block_at bs at).first h p next (omega arith) (omega arith) (omega arith))
    (λ (p : length bs ≤ at). absurd (let past = ceiling_past at bs (last + 1) p in omega arith))
    (cases_lt at (length bs))

-- what the two bounds of a gap tell, and which one isn't kept
pub held_parts : (low first end high : ℕ) → (nat_le low first && nat_le end high) ≡ true → (low ≤ first) × (end ≤ high)
held_parts low first end high e =
    let both = and_parts (nat_le low first) (nat_le end high) e in (leb-true low first both.0, leb-true end high both.1)

pub not_held : (low first end high : ℕ) → (nat_le low first && nat_le end high) ≡ false → (first < low) ⊎ (high < end)
not_held low first end high e =
    ⊎_elim (λ under. inl (leb-false low first under)) (λ over. inr (leb-false end high over))
    (and_cases (nat_le low first) (nat_le end high) e)
