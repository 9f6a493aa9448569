use Rattle.std.proofs.Common.{ap, sym, ◌+◌, ◌<◌, ◌∙◌, length, subst, List, arith}
use Rattle.std.specs.Prelude.{find, nat_le}
use Rattle.xinu_model.specs.Heap.Cells.{blocks_from}
use Rattle.freelist_memory.specs.Searches.{AreBelow}
use Rattle.freelist_memory.specs.declared.blocks.FreeBlock.{FreeBlock}
use Rattle.freelist_memory.proofs.Listed.{find_read, find_none}
use Rattle.freelist_memory.proofs.Puts.{read_within}
use Rattle.freelist_memory.proofs.Taken.{block_read, cells_many}
use Rattle.freelist_memory.proofs.Order.{block_some}
use Rattle.freelist_memory.proofs.list.FreeList.block_from.Goals as goal

pub returns-then-at-len-clause-found : goal.returns-then-at-len-clause-found
returns-then-at-len-clause-found c low a e =
    let bs = c.self.inside.blocks.items in
    let P : List FreeBlock → Type 0 = λ l. AreBelow c.args.cell l c.place_of-at.result in
    let h : AreBelow c.args.cell bs c.place_of-at.result = subst P c.deref.ensures.value c.place_of-at.ensures.below in
    ap (λ l. find (λ b. nat_le a b.0) (blocks_from low l)) (sym c.self.view_is)
    ∙ find_read low a c.args.cell bs c.place_of-at.result c.index.result.now c.self.inside.cells e h c.self.invariant.blocks (omega arith)
    c.index.ensures

pub returns-then-at-len-clause-within : goal.returns-then-at-len-clause-within
returns-then-at-len-clause-within c =
    let bs = c.self.inside.blocks.items in
    let read =
    read_within bs c.place_of-at.result c.index.result.now c.self.inside.cells (omega arith) c.index.ensures c.self.invariant.blocks in
    let many = cells_many bs c.self.inside.cells c.self.invariant.blocks in
    let e = ap length c.self.view_is in
    omega arith

pub returns-else-at-len-clause-found : goal.returns-else-at-len-clause-found
returns-else-at-len-clause-found c low a e =
    let bs = c.self.inside.blocks.items in
    let P : List FreeBlock → Type 0 = λ l. AreBelow c.args.cell l c.place_of-at.result in
    let h : AreBelow c.args.cell bs c.place_of-at.result = subst P c.deref.ensures.value c.place_of-at.ensures.below in
    ap (λ l. find (λ b. nat_le a b.0) (blocks_from low l)) (sym c.self.view_is)
    ∙ find_none low a c.args.cell bs c.place_of-at.result c.self.inside.cells e h c.self.invariant.blocks (omega arith)

pub returns-then-at-len-clause-some : goal.returns-then-at-len-clause-some
returns-then-at-len-clause-some c =
    let bs = c.self.inside.blocks.items in
    let w : c.place_of-at.result < length bs = omega arith in
    let P : FreeBlock → Type 0 = λ b. 0 < b.count in
    subst P (sym (block_read bs c.place_of-at.result c.index.result.now w c.index.ensures))
    (block_some 0 bs (c.self.inside.cells + 1) c.place_of-at.result c.self.invariant.blocks w)
