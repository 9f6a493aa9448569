-- The cells of a list of blocks: in two parts, with a block more or less, and with two blocks that touch.
use Rattle.std.proofs.Common.{◌≡◌, ℕ, ◌+◌, ◌-◌, ◌≤◌, true, false, List, [], ◌∷◌, ◌++◌, length, length-append, append_assoc, refl, sym, ap}
use Rattle.std.proofs.Common.{◌∙◌, arith}
use Rattle.std.specs.Prelude.{replicate}
use Rattle.std.proofs.lemmas.List.{length-replicate, replicate-append-replicate}
use Rattle.freelist_memory.specs.Blocks.{cells_of, AreBlocks}
use Rattle.freelist_memory.specs.declared.blocks.FreeBlock.{FreeBlock}

-- The blocks are in order from a cell on up to another; they may touch.
abbrev pub AreWithin : ℕ → List FreeBlock → ℕ → Type 0
AreWithin at [] last = at ≤ last
AreWithin at (b ∷ bs) last = (at ≤ b.first) × AreWithin (b.first + b.count) bs last

-- the least cell isn't above the last
pub within_order : (at : ℕ) (bs : List FreeBlock) (last : ℕ) → AreWithin at bs last → at ≤ last
within_order at [] last h = h
within_order at (b ∷ bs) last h = let w = within_order (b.first + b.count) bs last h.1 in let v = h.0 in omega arith

-- the same of blocks with cells between
pub blocks_order : (from : ℕ) (bs : List FreeBlock) (to : ℕ) → AreBlocks from bs to → from ≤ to
blocks_order from [] to h = h
blocks_order from (b ∷ bs) to h = let w = blocks_order (b.first + b.count + 1) bs to h.2 in let v = h.0 in omega arith

-- as many cells of a kind in two parts
pub replicate_parts : {A : Type 0} (m n k : ℕ) (x : A) → m + n ≡ k → replicate k x ≡ replicate m x ++ replicate n x
replicate_parts m n k x e = ap (λ j. replicate j x) (sym e) ∙ sym (replicate-append-replicate m n x)

-- Cells that begin below the first block are taken up to where it may begin.
pub cells_later : (at mid : ℕ) (bs : List FreeBlock) (last : ℕ) → at ≤ mid → AreWithin mid bs last
    → cells_of at bs last ≡ replicate (mid - at) false ++ cells_of mid bs last
cells_later at mid [] last w h = replicate_parts (mid - at) (last - mid) (last - at) false (omega arith)
cells_later at mid (b ∷ bs) last w h =
    let v = h.0 in
    let rest = replicate b.count true ++ cells_of (b.first + b.count) bs last in
    ap (λ l. l ++ rest) (replicate_parts (mid - at) (b.first - mid) (b.first - at) false (omega arith))
    ∙ append_assoc (replicate (mid - at) false) (replicate (b.first - mid) false) rest

-- The cells of a list in two parts.
pub cells_parts : (at mid : ℕ) (pre bs : List FreeBlock) (last : ℕ) → AreWithin at pre mid → AreWithin mid bs last
    → cells_of at (pre ++ bs) last ≡ cells_of at pre mid ++ cells_of mid bs last
cells_parts at mid [] bs last h g = cells_later at mid bs last h g
cells_parts at mid (b ∷ pre) bs last h g =
    let front = replicate (b.first - at) false in
    let own = replicate b.count true in
    let next = cells_of (b.first + b.count) pre mid in
    ap (λ l. front ++ (own ++ l)) (cells_parts (b.first + b.count) mid pre bs last h.1 g)
    ∙ sym (ap (λ l. front ++ l) (append_assoc own next (cells_of mid bs last)))
    ∙ sym (append_assoc front (own ++ next) (cells_of mid bs last))

-- There are as many cells as there is room.
pub cells_length : (at : ℕ) (bs : List FreeBlock) (last : ℕ) → AreWithin at bs last → length (cells_of at bs last) ≡ last - at
cells_length at [] last h = length-replicate (last - at) false
cells_length at (b ∷ bs) last h =
    let v = h.0 in
    let w = within_order (b.first + b.count) bs last h.1 in
    let front = length-replicate (b.first - at) false in
    let own = length-replicate b.count true in
    let rest = cells_length (b.first + b.count) bs last h.1 in
    let one = length-append (replicate (b.first - at) false) (replicate b.count true ++ cells_of (b.first + b.count) bs last) in
    let two = length-append (replicate b.count true) (cells_of (b.first + b.count) bs last) in
    omega arith

-- Two blocks that touch have the cells of one.
pub cells_joined : (at f x y : ℕ) (pre bs : List FreeBlock) (last : ℕ)
    → cells_of at (pre ++ record { first = f; count = x } ∷ record { first = f + x; count = y } ∷ bs) last
    ≡ cells_of at (pre ++ record { first = f; count = x + y } ∷ bs) last
cells_joined at f x y [] bs last =
    let front = replicate (f - at) false in
    let rest = cells_of (f + x + y) bs last in
    ap (λ n. front ++ (replicate x true ++ (replicate n false ++ (replicate y true ++ rest))))
    (let e : f + x - (f + x) ≡ 0 = omega arith in e)
    ∙ ap (λ l. front ++ l) (sym (append_assoc (replicate x true) (replicate y true) rest))
    ∙ ap (λ l. front ++ (l ++ rest)) (sym (replicate_parts x y (x + y) true refl))
    ∙ ap (λ n. front ++ (replicate (x + y) true ++ cells_of n bs last)) (let e : f + x + y ≡ f + (x + y) = omega arith in e)
cells_joined at f x y (b ∷ pre) bs last =
    ap (λ l. replicate (b.first - at) false ++ (replicate b.count true ++ l)) (cells_joined (b.first + b.count) f x y pre bs last)
