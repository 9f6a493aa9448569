use Rattle.std.proofs.Common.{ap, sym, ◌∙◌, arith}
use Rattle.std.specs.Prelude.{count_by, sum_by}
use Rattle.std.proofs.lemmas.List.Sums.{count_by-le-length}
use Rattle.freelist_memory.specs.Blocks.{cells_of}
use Rattle.freelist_memory.specs.declared.blocks.FreeBlock.{FreeBlock}
use Rattle.freelist_memory.proofs.Listed.{count_cells}
use Rattle.freelist_memory.proofs.Taken.{cells_many}
use Rattle.freelist_memory.proofs.list.FreeList.total.Goals as goal

pub count_of-requires : goal.count_of-requires
count_of-requires c =
    let bs = c.self.inside.blocks.items in
    let last = c.self.inside.cells in
    let many = cells_many bs last c.self.invariant.blocks in
    let most = count_by-le-length (λ b. b) (cells_of 0 bs last) in
    let sum = count_cells 0 bs last in
    let read = ap (sum_by (λ (b : FreeBlock). b.count)) c.deref.ensures.value in
    let few = c.self.invariant.few in
    record { few = omega arith }

pub returns-clause-total : goal.returns-clause-total
returns-clause-total c =
    c.count_of.ensures.sum ∙ ap (sum_by (λ (b : FreeBlock). b.count)) c.deref.ensures.value
    ∙ sym (count_cells 0 c.self.inside.blocks.items c.self.inside.cells) ∙ ap (count_by (λ b. b)) c.self.view_is

pub returns-clause-most : goal.returns-clause-most
returns-clause-most c =
    let most = count_by-le-length (λ b. b) c.args.self.now in
    let total = c.count_of.ensures.sum ∙ ap (sum_by (λ (b : FreeBlock). b.count)) c.deref.ensures.value
    ∙ sym (count_cells 0 c.self.inside.blocks.items c.self.inside.cells) ∙ ap (count_by (λ b. b)) c.self.view_is in
    omega arith
