-- The free blocks that the cells show, and how many cells are free: those of the list.
use Rattle.std.proofs.Common.{◌≡◌, ℕ, zero, suc, ◌+◌, ◌-◌, ◌*◌, ◌/◌, ◌<◌, ◌≤◌, Bool, true, false, List, [], ◌∷◌, ◌++◌, length, get_or, map}
use Rattle.std.proofs.Common.{Some, None, refl, sym, ap, ◌∙◌, subst, cond, arith}
use Rattle.std.specs.Prelude.{replicate, nat_le, find, option_map, count_by, sum_by, slice_get}
use Rattle.std.proofs.lemmas.Bool.{le-leb, lt-leb, eq-eqb, ne_eqb}
use Rattle.std.proofs.lemmas.List.Sums.{sum_by-append, sum_by-cons}
use Rattle.std.proofs.lemmas.List.Folds.{sum_by-replicate}
use Rattle.xinu_model.specs.Heap.Cells.{Block, with_cell, blocks_from}
use Rattle.freelist_memory.specs.Blocks.{span_of, cells_of, AreBlocks}
use Rattle.freelist_memory.specs.Searches.{AreBelow}
use Rattle.freelist_memory.specs.declared.blocks.FreeBlock.{FreeBlock}

-- taken cells count nothing
count_taken : (n : ℕ) (l : List Bool) → count_by (λ c. c) (replicate n false ++ l) ≡ count_by (λ c. c) l
count_taken n l =
    sum_by-append (λ c. cond c 1 0) (replicate n false) l
    ∙ ap (λ i. i + count_by (λ c. c) l) (sum_by-replicate (λ c. cond c 1 0) n false)
    ∙ (let e : n * 0 + count_by (λ c. c) l ≡ count_by (λ c. c) l = omega arith in e)

-- free ones count
count_free : (n : ℕ) (l : List Bool) → count_by (λ c. c) (replicate n true ++ l) ≡ n + count_by (λ c. c) l
count_free n l =
    sum_by-append (λ c. cond c 1 0) (replicate n true) l
    ∙ ap (λ i. i + count_by (λ c. c) l) (sum_by-replicate (λ c. cond c 1 0) n true)
    ∙ (let e : n * 1 + count_by (λ c. c) l ≡ n + count_by (λ c. c) l = omega arith in e)

-- none is after the last block
count_end : (n : ℕ) → count_by (λ c. c) (replicate n false) ≡ 0
count_end n = sum_by-replicate (λ c. cond c 1 0) n false ∙ (let e : n * 0 ≡ 0 = omega arith in e)

-- As many cells are free as the blocks have.
pub count_cells : (at : ℕ) (bs : List FreeBlock) (last : ℕ) → count_by (λ c. c) (cells_of at bs last) ≡ sum_by (λ b. b.count) bs
count_cells at [] last = count_end (last - at)
count_cells at (b ∷ bs) last =
    count_taken (b.first - at) (replicate b.count true ++ cells_of (b.first + b.count) bs last)
    ∙ count_free b.count (cells_of (b.first + b.count) bs last)
    ∙ ap (λ n. b.count + n) (count_cells (b.first + b.count) bs last)
    ∙ sym (sum_by-cons (λ (d : FreeBlock). d.count) b bs)

-- taken cells show no block
shown_taken : (a n : ℕ) (l : List Bool) → blocks_from a (replicate n false ++ l) ≡ blocks_from (a + 8 * n) l
shown_taken a zero l = ap (λ i. blocks_from i l) (let e : a ≡ a + 8 * 0 = omega arith in e)
shown_taken a (suc n) l = shown_taken (a + 8) n l ∙ ap (λ i. blocks_from i l) (let e : a + 8 + 8 * n ≡ a + 8 * suc n = omega arith in e)

-- nor do those after the last block
shown_end : (a n : ℕ) → blocks_from a (replicate n false) ≡ []
shown_end a zero = refl
shown_end a (suc n) = shown_end (a + 8) n

-- The first block, if there is one, begins above an address.
abbrev pub IsAbove : ℕ → List Block → Type 0
IsAbove a [] = Unit {0}
IsAbove a (b ∷ blocks) = a < b.0

-- a free cell before a block that it doesn't touch
cell_apart : (a : ℕ) (blocks : List Block) → IsAbove (a + 8) blocks → with_cell a blocks ≡ (a, 8) ∷ blocks
cell_apart a [] h = refl
cell_apart a (b ∷ blocks) h = ap (λ t. cond t ((a, b.1 + 8) ∷ blocks) ((a, 8) ∷ b ∷ blocks)) (ne_eqb b.0 (a + 8) (λ e. omega arith))

-- and before one that it touches
cell_touches : (a n : ℕ) (blocks : List Block) → with_cell a ((a + 8, n) ∷ blocks) ≡ (a, n + 8) ∷ blocks
cell_touches a n blocks = ap (λ t. cond t ((a, n + 8) ∷ blocks) ((a, 8) ∷ (a + 8, n) ∷ blocks)) (eq-eqb (a + 8) (a + 8) refl)

-- free cells show a block
shown_free : (a n : ℕ) (l : List Bool) (blocks : List Block) → 0 < n → blocks_from (a + 8 * n) l ≡ blocks → IsAbove (a + 8 * n) blocks
    → blocks_from a (replicate n true ++ l) ≡ (a, 8 * n) ∷ blocks
shown_free a zero l blocks z e h = absurd (omega arith)
shown_free a (suc zero) l blocks z e h =
    let same : a + 8 ≡ a + 8 * suc zero = omega arith in
    let P : ℕ → Type 0 = λ i. IsAbove i blocks in
    ap (with_cell a) (ap (λ i. blocks_from i l) same ∙ e) ∙ cell_apart a blocks (subst P (sym same) h)
shown_free a (suc (suc n)) l blocks z e h =
    let same : a + 8 + 8 * suc n ≡ a + 8 * suc (suc n) = omega arith in
    let P : ℕ → Type 0 = λ i. IsAbove i blocks in
    ap (with_cell a) (shown_free (a + 8) (suc n) l blocks (omega arith) (ap (λ i. blocks_from i l) same ∙ e) (subst P (sym same) h))
    ∙ cell_touches a (8 * suc n) blocks
    ∙ ap (λ i. (a, i) ∷ blocks) (let f : 8 * suc n + 8 ≡ 8 * suc (suc n) = omega arith in f)

-- the blocks of a list are above where they may begin
shown_above : (low at : ℕ) (bs : List FreeBlock) (to : ℕ) → AreBlocks (at + 1) bs to → IsAbove (low + 8 * at) (map (span_of low) bs)
shown_above low at [] to h = tt
shown_above low at (b ∷ bs) to h = let w = h.0 in omega arith

-- The cells show the blocks of the list.
pub shown_blocks : (low at from : ℕ) (bs : List FreeBlock) (to last : ℕ) → at ≤ from → AreBlocks from bs to
    → blocks_from (low + 8 * at) (cells_of at bs last) ≡ map (span_of low) bs
shown_blocks low at from [] to last w h = shown_end (low + 8 * at) (last - at)
shown_blocks low at from (b ∷ bs) to last w h =
    let v = h.0 in
    let rest = cells_of (b.first + b.count) bs last in
    let start : low + 8 * at + 8 * (b.first - at) ≡ low + 8 * b.first = omega arith in
    let end : low + 8 * (b.first + b.count) ≡ low + 8 * b.first + 8 * b.count = omega arith in
    let P : ℕ → Type 0 = λ i. IsAbove i (map (span_of low) bs) in
    shown_taken (low + 8 * at) (b.first - at) (replicate b.count true ++ rest)
    ∙ ap (λ i. blocks_from i (replicate b.count true ++ rest)) start
    ∙ shown_free (low + 8 * b.first) b.count rest (map (span_of low) bs) h.1
    (ap (λ i. blocks_from i rest) (sym end) ∙ shown_blocks low (b.first + b.count) (b.first + b.count + 1) bs to last (omega arith) h.2)
    (subst P end (shown_above low (b.first + b.count) bs to h.2))

-- the first block at an address or above
find_shown : (low a cell : ℕ) (bs : List FreeBlock) (at : ℕ) → (a - low + 7) / 8 ≡ cell → AreBelow cell bs at
    → find (λ b. nat_le a b.0) (map (span_of low) bs) ≡ option_map (span_of low) (slice_get bs at)
find_shown low a cell [] at e h = refl
find_shown low a cell (b ∷ bs) zero e h =
    let next = h.next (omega arith) in
    ap (λ t. cond t (Some (span_of low b)) (find (λ b. nat_le a b.0) (map (span_of low) bs))) (le-leb a (low + 8 * b.first) (omega arith))
find_shown low a cell (b ∷ bs) (suc i) e h =
    let below = h.below 0 (omega arith) in
    let within = h.within in
    let rest : AreBelow cell bs i =
    record { within = omega arith; below = λ j w. h.below (suc j) (omega arith); next = λ w. h.next (omega arith) } in
    ap (λ t. cond t (Some (span_of low b)) (find (λ b. nat_le a b.0) (map (span_of low) bs))) (lt-leb a (low + 8 * b.first) (omega arith))
    ∙ find_shown low a cell bs i e rest

-- the element that was read
got_read : (bs : List FreeBlock) (i : ℕ) (b : FreeBlock) → i < length bs → b ≡ get_or bs i b → slice_get bs i ≡ Some b
got_read [] i b w e = absurd (omega arith)
got_read (a ∷ bs) zero b w e = ap Some (sym e)
got_read (a ∷ bs) (suc i) b w e = got_read bs i b (omega arith) e

-- none is past the end
got_past : (bs : List FreeBlock) (i : ℕ) → length bs ≤ i → slice_get bs i ≡ None
got_past [] i w = refl
got_past (a ∷ bs) zero w = absurd (omega arith)
got_past (a ∷ bs) (suc i) w = got_past bs i (omega arith)

-- the first block that the cells show at an address or above
find_cells : (low a cell : ℕ) (bs : List FreeBlock) (at last : ℕ) → (a - low + 7) / 8 ≡ cell → AreBelow cell bs at
    → AreBlocks 0 bs (last + 1)
    → find (λ b. nat_le a b.0) (blocks_from low (cells_of 0 bs last)) ≡ option_map (span_of low) (slice_get bs at)
find_cells low a cell bs at last e h g =
    let first : low ≡ low + 8 * 0 = omega arith in
    ap (λ i. find (λ b. nat_le a b.0) (blocks_from i (cells_of 0 bs last))) first
    ∙ ap (find (λ b. nat_le a b.0)) (shown_blocks low 0 0 bs (last + 1) last (omega arith) g)
    ∙ find_shown low a cell bs at e h

-- It is the one that was read.
pub find_read : (low a cell : ℕ) (bs : List FreeBlock) (at : ℕ) (b : FreeBlock) (last : ℕ) → (a - low + 7) / 8 ≡ cell → AreBelow cell bs at
    → AreBlocks 0 bs (last + 1) → at < length bs → b ≡ get_or bs at b
    → find (λ b. nat_le a b.0) (blocks_from low (cells_of 0 bs last)) ≡ Some (span_of low b)
find_read low a cell bs at b last e h g w r = find_cells low a cell bs at last e h g ∙ ap (option_map (span_of low)) (got_read bs at b w r)

-- There is none.
pub find_none : (low a cell : ℕ) (bs : List FreeBlock) (at last : ℕ) → (a - low + 7) / 8 ≡ cell → AreBelow cell bs at
    → AreBlocks 0 bs (last + 1) → length bs ≤ at
    → find (λ b. nat_le a b.0) (blocks_from low (cells_of 0 bs last)) ≡ None
find_none low a cell bs at last e h g w = find_cells low a cell bs at last e h g ∙ ap (option_map (span_of low)) (got_past bs at w)
