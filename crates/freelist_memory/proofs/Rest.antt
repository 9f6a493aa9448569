-- Laws for a loop over the free blocks: the first one at an address or above, and those after it.
use Rattle.std.proofs.Common.{◌≡◌, ℕ, ◌+◌, ◌<◌, ◌≤◌, ◌==◌, Bool, true, false, List, [], ◌∷◌, Some, None, refl, sym, ap, ◌∙◌, cond, subst}
use Rattle.std.proofs.Common.{arith}
use Rattle.std.specs.Prelude.{nat_le, find, filter}
use Rattle.std.proofs.lemmas.Bool.{cond_both, le-leb, lt-leb, leb-true, leb-false, eqb-true}
use Rattle.xinu_model.specs.Heap.Cells.{Heap, Block, with_cell, blocks_from, free_blocks}

-- the blocks at an address or above
abbrev pub blocks_above : ℕ → List Block → List Block
blocks_above a blocks = filter (λ b. nat_le a b.0) blocks

-- The blocks are by address from a least one on, and none is empty.
abbrev pub AreRising : ℕ → List Block → Type 0
AreRising a [] = Unit {0}
AreRising a (b ∷ blocks) = (a ≤ b.0) × (0 < b.1) × AreRising (b.0 + b.1) blocks

-- they may begin lower
rising_lower : (a c : ℕ) (blocks : List Block) → a ≤ c → AreRising c blocks → AreRising a blocks
rising_lower a c [] w h = tt
rising_lower a c (b ∷ blocks) w h = (let v = h.0 in omega arith, h.1, h.2)

-- with a cell before them
rising_cell : (a : ℕ) (blocks : List Block) → AreRising (a + 8) blocks → AreRising a (with_cell a blocks)
rising_cell a [] h = (omega arith, omega arith, tt)
rising_cell a (b ∷ blocks) h =
    let w = h.0 in
    cond_both (b.0 == a + 8) ((a, b.1 + 8) ∷ blocks) ((a, 8) ∷ b ∷ blocks) (λ l. AreRising a l)
    (λ t. (omega arith, omega arith, rising_lower (a + (b.1 + 8)) (b.0 + b.1) blocks (let e = eqb-true b.0 (a + 8) t in omega arith) h.2))
    (λ t. (omega arith, omega arith, (w, h.1, h.2)))

-- the blocks that cells show are rising
blocks_rise : (a : ℕ) (cells : List Bool) → AreRising a (blocks_from a cells)
blocks_rise a [] = tt
blocks_rise a (true ∷ cells) = rising_cell a (blocks_from (a + 8) cells) (blocks_rise (a + 8) cells)
blocks_rise a (false ∷ cells) = rising_lower a (a + 8) (blocks_from (a + 8) cells) (omega arith) (blocks_rise (a + 8) cells)

-- all of them are above where they may begin
rising_all : (a c : ℕ) (blocks : List Block) → a ≤ c → AreRising c blocks → blocks_above a blocks ≡ blocks
rising_all a c [] w h = refl
rising_all a c (b ∷ blocks) w h =
    let v = h.0 in
    let some = h.1 in
    ap (λ t. cond t (b ∷ blocks_above a blocks) (blocks_above a blocks)) (le-leb a b.0 (omega arith))
    ∙ ap (λ l. b ∷ l) (rising_all a (b.0 + b.1) blocks (omega arith) h.2)

-- what is found is at the address or above
pub found_above : (a : ℕ) (blocks : List Block) (b : Block) → find (λ d. nat_le a d.0) blocks ≡ Some b → a ≤ b.0
found_above a [] b e = absurd (cc)
found_above a (d ∷ blocks) b e =
    cond_both (nat_le a d.0) (Some d) (find (λ x. nat_le a x.0) blocks) (λ o. o ≡ Some b → a ≤ b.0)
    (λ t e. let P : Block → Type 0 = λ x. a ≤ x.0 in let same : d ≡ b = cc in subst P same (leb-true a d.0 t))
    (λ t e. found_above a blocks b e) e

-- the first block at an address or above, and the others
rising_next : (a c : ℕ) (blocks : List Block) (b : Block) → AreRising c blocks → find (λ d. nat_le a d.0) blocks ≡ Some b
    → blocks_above a blocks ≡ b ∷ blocks_above (b.0 + b.1) blocks
rising_next a c [] b h e = absurd (cc)
rising_next a c (d ∷ blocks) b h e =
    let some = h.1 in
    cond_both (nat_le a d.0) (Some d) (find (λ x. nat_le a x.0) blocks)
    (λ o. o ≡ Some b → blocks_above a (d ∷ blocks) ≡ b ∷ blocks_above (b.0 + b.1) (d ∷ blocks))
    (λ t e.
    let same : d ≡ b = cc in
    let P : Block → Type 0 = λ x. blocks_above a (d ∷ blocks) ≡ x ∷ blocks_above (x.0 + x.1) (d ∷ blocks) in
    let low = leb-true a d.0 t in
    subst P same
    (ap (λ v. cond v (d ∷ blocks_above a blocks) (blocks_above a blocks)) t
    ∙ ap (λ l. d ∷ l)
    (rising_all a (d.0 + d.1) blocks (omega arith) h.2 ∙ sym (rising_all (d.0 + d.1) (d.0 + d.1) blocks (omega arith) h.2))
    ∙ sym
    (ap (λ v. d ∷ cond v (d ∷ blocks_above (d.0 + d.1) blocks) (blocks_above (d.0 + d.1) blocks))
    (lt-leb (d.0 + d.1) d.0 (omega arith)))))
    (λ t e.
    let low = leb-false a d.0 t in
    let rest = rising_next a (d.0 + d.1) blocks b h.2 e in
    let found = found_above a blocks b e in
    ap (λ v. cond v (d ∷ blocks_above a blocks) (blocks_above a blocks)) t
    ∙ rest
    ∙ sym
    (ap (λ v. b ∷ cond v (d ∷ blocks_above (b.0 + b.1) blocks) (blocks_above (b.0 + b.1) blocks))
    (lt-leb (b.0 + b.1) d.0 (omega arith)))) e

-- none is at an address or above if none is found
none_above : (a : ℕ) (blocks : List Block) → find (λ d. nat_le a d.0) blocks ≡ None → blocks_above a blocks ≡ []
none_above a [] e = refl
none_above a (d ∷ blocks) e =
    cond_both (nat_le a d.0) (Some d) (find (λ x. nat_le a x.0) blocks) (λ o. o ≡ None → blocks_above a (d ∷ blocks) ≡ [])
    (λ t e. absurd (cc))
    (λ t e. ap (λ v. cond v (d ∷ blocks_above a blocks) (blocks_above a blocks)) t ∙ none_above a blocks e) e

-- A loop takes the first block at an address or above, and goes on after it.
pub next_block : (h : Heap) (a : ℕ) (b : Block) → find (λ d. nat_le a d.0) (free_blocks h) ≡ Some b
    → blocks_above a (free_blocks h) ≡ b ∷ blocks_above (b.0 + b.1) (free_blocks h)
next_block h a b e = rising_next a h.low (free_blocks h) b (blocks_rise h.low h.cells) e

-- If there is none, none is left.
pub no_block : (h : Heap) (a : ℕ) → find (λ d. nat_le a d.0) (free_blocks h) ≡ None → blocks_above a (free_blocks h) ≡ []
no_block h a e = none_above a (free_blocks h) e

-- A loop begins with all blocks.
pub all_blocks : (h : Heap) → blocks_above 0 (free_blocks h) ≡ free_blocks h
all_blocks h = rising_all 0 h.low (free_blocks h) (omega arith) (blocks_rise h.low h.cells)
