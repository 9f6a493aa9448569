use Rattle.std.proofs.Common.{◌≡◌, ℕ, ◌+◌, ◌<◌, ◌++◌, List, length, take, drop, get_or, refl, ap, sym, ◌∙◌, subst, arith}
use Rattle.xinu_model.specs.Heap.Cells.{lowest_free}
use Rattle.freelist_memory.specs.Blocks.{AreBlocks, unless_empty}
use Rattle.freelist_memory.specs.Searches.{AreShort, IsLowest}
use Rattle.freelist_memory.specs.declared.blocks.FreeBlock.{FreeBlock}
use Rattle.freelist_memory.proofs.Changes.{rest_above}
use Rattle.freelist_memory.proofs.Found.{lowest_nowhere}
use Rattle.freelist_memory.proofs.Taken.{cells_many, IsLowTaken, low_taken}
use Rattle.freelist_memory.proofs.list.FreeList.find_low.Goals as goal

-- no block is long enough
pub returns-in_default-clause-found : goal.returns-in_default-clause-found
returns-in_default-clause-found c =
    let k = c.args.count in
    let last = c.self.inside.cells in
    let P : List FreeBlock → Type 0 = λ l. AreShort k l in
    let none : AreShort k c.self.inside.blocks.items = subst P c.deref.ensures.value c.in_default.ensures.none in
    ap (lowest_free k) (sym c.self.view_is)
    ∙ lowest_nowhere k 0 0 c.self.inside.blocks.items (last + 1) last c.requires.some c.self.invariant.blocks none

-- the block that was found
found : (k last : ℕ) (bs l : List FreeBlock) (i : ℕ) (b : FreeBlock) → 0 < k → l ≡ bs → IsLowest k l i → b ≡ get_or bs i b → AreBlocks 0 bs (last + 1)
    → IsLowTaken k last bs b (take i bs ++ unless_empty (rest_above k b) (drop (i + 1) bs))
found k last bs l i b some same f e h = low_taken k last bs i b _ some (subst (λ l. IsLowest k l i) same f) e h refl

pub returns-clause-found : goal.returns-clause-found
returns-clause-found c =
    ap (lowest_free c.args.count) (sym c.self.view_is)
    ∙ (found c.args.count c.self.inside.cells c.self.inside.blocks.items _ c.in-Some.at c.index-block.result.now c.requires.some c.deref.ensures.value c.in-Some.ensures.found c.index-block.ensures c.self.invariant.blocks).found

pub returns-clause-within : goal.returns-clause-within
returns-clause-within c =
    let within = (found c.args.count c.self.inside.cells c.self.inside.blocks.items _ c.in-Some.at c.index-block.result.now c.requires.some c.deref.ensures.value c.in-Some.ensures.found c.index-block.ensures c.self.invariant.blocks).within in
    let many = cells_many c.self.inside.blocks.items c.self.inside.cells c.self.invariant.blocks in
    let e = ap length c.self.view_is in
    omega arith
