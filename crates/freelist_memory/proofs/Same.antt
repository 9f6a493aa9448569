-- Lists of blocks that have the same cells are equal.
use Rattle.std.proofs.Common.{◌≡◌, ℕ, ◌+◌, List, [], ◌∷◌, length, map, refl, sym, ap, ◌∙◌, arith}
use Rattle.xinu_model.specs.Heap.Cells.{blocks_from}
use Rattle.freelist_memory.specs.Blocks.{span_of, cells_of, AreBlocks}
use Rattle.freelist_memory.specs.declared.blocks.FreeBlock.{FreeBlock}
use Rattle.freelist_memory.proofs.Listed.{shown_blocks}
use Rattle.freelist_memory.proofs.Taken.{cells_many}

-- a block by its address and its bytes is one block
same_span : (b c : FreeBlock) → span_of 0 b ≡ span_of 0 c → b ≡ c
same_span b c e =
    let starts = ap (λ s. s.0) e in
    let sizes = ap (λ s. s.1) e in
    let first : b.first ≡ c.first = omega arith in
    let count : b.count ≡ c.count = omega arith in
    ap (λ n. record { first = n; count = b.count }) first ∙ ap (λ n. record { first = c.first; count = n }) count

-- and so is each of a list
same_spans : (bs cs : List FreeBlock) → map (span_of 0) bs ≡ map (span_of 0) cs → bs ≡ cs
same_spans [] [] e = refl
same_spans [] (c ∷ cs) e = absurd (cc)
same_spans (b ∷ bs) [] e = absurd (cc)
same_spans (b ∷ bs) (c ∷ cs) e =
    let first : span_of 0 b ≡ span_of 0 c = cc in
    let others : map (span_of 0) bs ≡ map (span_of 0) cs = cc in
    let block = same_span b c first in
    let rest = same_spans bs cs others in
    cc

-- Blocks that have the same cells are the same blocks.
pub same_blocks : (bs cs : List FreeBlock) (last to : ℕ) → AreBlocks 0 bs (last + 1) → AreBlocks 0 cs (to + 1)
    → cells_of 0 bs last ≡ cells_of 0 cs to → bs ≡ cs
same_blocks bs cs last to h g e =
    let shown = sym (shown_blocks 0 0 0 bs (last + 1) last (omega arith) h) ∙ ap (blocks_from 0) e
    ∙ shown_blocks 0 0 0 cs (to + 1) to (omega arith) g in
    same_spans bs cs shown

-- There are as many cells.
pub same_last : (bs cs : List FreeBlock) (last to : ℕ) → AreBlocks 0 bs (last + 1) → AreBlocks 0 cs (to + 1)
    → cells_of 0 bs last ≡ cells_of 0 cs to → last ≡ to
same_last bs cs last to h g e =
    let many = cells_many bs last h in
    let more = cells_many cs to g in
    let same = ap length e in
    omega arith
