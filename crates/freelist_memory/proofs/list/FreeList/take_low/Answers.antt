use Rattle.std.proofs.Common.{◌+◌, List, length, false, ap, sym, ◌∙◌, subst, arith}
use Rattle.xinu_model.specs.Heap.Cells.{lowest_free, marked}
use Rattle.freelist_memory.specs.Searches.{AreShort, IsLowest}
use Rattle.freelist_memory.specs.declared.blocks.FreeBlock.{FreeBlock}
use Rattle.freelist_memory.proofs.Found.{lowest_nowhere}
use Rattle.freelist_memory.proofs.Taken.{cells_many, IsLowTaken, low_taken, read_end}
use Rattle.freelist_memory.proofs.list.FreeList.take_low.Goals as goal

-- no block is long enough
pub returns-in_default-clause-found : goal.returns-in_default-clause-found
returns-in_default-clause-found c =
    let k = c.args.count in
    let last = c.self.inside.cells in
    let P : List FreeBlock → Type 0 = λ l. AreShort k l in
    let none : AreShort k c.self.inside.blocks.items = subst P c.deref.ensures.value c.in_default.ensures.none in
    ap (lowest_free k) (sym c.self.view_is)
    ∙ lowest_nowhere k 0 0 c.self.inside.blocks.items (last + 1) last c.requires.some c.self.invariant.blocks none

-- the block that was found is among the cells
pub overflow_add-rest : goal.overflow_add-rest
overflow_add-rest c =
    let P : List FreeBlock → Type 0 = λ l. IsLowest c.args.count l c.in-Some.at in
    let f = subst P c.deref.ensures.value c.in-Some.ensures.found in
    let end =
    read_end c.args.count c.self.inside.cells c.self.inside.blocks.items c.in-Some.at c.index-block.result.now f.place f.long
    c.index-block.ensures c.self.invariant.blocks in
    let few = c.self.invariant.few in
    omega arith

-- what was taken
taken : (c : goal.After-cut)
    → IsLowTaken c.args.count c.self.inside.cells c.self.inside.blocks.items c.index-block.result.now c.cut.new.blocks.items
taken c =
    let P : List FreeBlock → Type 0 = λ l. IsLowest c.args.count l c.in-Some.at in
    let f = subst P c.deref.ensures.value c.in-Some.ensures.found in
    low_taken c.args.count c.self.inside.cells c.self.inside.blocks.items c.in-Some.at c.index-block.result.now c.cut.new.blocks.items
    c.requires.some f c.index-block.ensures c.self.invariant.blocks c.cut.ensures.list

pub invariant_of-self : goal.invariant_of-self
invariant_of-self c =
    let room = c.self.invariant.room in
    let capacity = c.cut.ensures.capacity in
    record { blocks = (taken c).cut.blocks; room = omega arith; few = c.self.invariant.few }

pub returns-clause-found : goal.returns-clause-found
returns-clause-found c = ap (lowest_free c.args.count) (sym c.self.view_is) ∙ (taken c).found

pub returns-clause-taken : goal.returns-clause-taken
returns-clause-taken c = (taken c).cut.cells ∙ ap (marked false c.index-block.result.now.first c.args.count) c.self.view_is

pub returns-clause-within : goal.returns-clause-within
returns-clause-within c =
    let within = (taken c).within in
    let many = cells_many c.self.inside.blocks.items c.self.inside.cells c.self.invariant.blocks in
    let e = ap length c.self.view_is in
    omega arith
