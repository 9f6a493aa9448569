use Rattle.std.proofs.Common.{◌≡◌, ℕ, ◌+◌, ◌<◌, ◌≤◌, length, drop, List, false, sym, ap, ◌∙◌, subst, ⊎_elim, arith}
use Rattle.std.specs.Prelude.{vec_capacity}
use Rattle.xinu_model.specs.Heap.Cells.{begins_with}
use Rattle.freelist_memory.specs.Blocks.{block_at}
use Rattle.freelist_memory.specs.declared.blocks.FreeBlock.{FreeBlock}
use Rattle.freelist_memory.proofs.Taken.{cells_many}
use Rattle.freelist_memory.proofs.Order.{block_end}
use Rattle.freelist_memory.proofs.Gaps.{past_begins, gap_begins, low_refused, high_refused, held_parts, not_held}
use Rattle.freelist_memory.specs.declared.blocks.Gap.{Gap}
use Rattle.freelist_memory.specs.Gaps.{floor_at, ceiling_at, Fits}
use Rattle.freelist_memory.specs.Searches.{AreBelow}
use Rattle.freelist_memory.proofs.list.FreeList.give.Goals as goal

pub returns-then-end-self-clause-taken : goal.returns-then-end-self-clause-taken
returns-then-end-self-clause-taken c =
    let k = c.args.count in
    sym (ap (λ l. begins_with false k (drop c.args.first l)) (sym c.self.view_is)
    ∙ past_begins c.self.inside.blocks.items c.args.first k c.self.inside.cells c.self.invariant.blocks c.requires.some (omega arith))

pub gap_at-gap-requires-clause-ends : goal.gap_at-gap-requires-clause-ends
gap_at-gap-requires-clause-ends c =
    let P : List FreeBlock → Type 0 = λ l. (i : ℕ) → i < length l → (block_at l i).first + (block_at l i).count ≤ c.self.inside.cells in
    subst P (sym c.deref.ensures.value)
    (λ i w. let end = block_end 0 c.self.inside.blocks.items (c.self.inside.cells + 1) i c.self.invariant.blocks w in omega arith)

-- the gap that was found in the list
abbrev Found : ℕ → List FreeBlock → Gap → ℕ → Type 0
Found first bs g cells = AreBelow first bs g.at × (g.low ≡ floor_at g.at bs) × (g.high ≡ ceiling_at g.at bs (cells + 1))

pub returns-then-not-holds-clause-taken : goal.returns-then-not-holds-clause-taken
returns-then-not-holds-clause-taken c =
    let k = c.args.count in
    let bs = c.self.inside.blocks.items in
    let g = c.gap_at-gap.result in
    let P : List FreeBlock → Type 0 = λ l. Found c.args.first l g c.self.inside.cells in
    let found : Found c.args.first bs g c.self.inside.cells =
    subst P c.deref.ensures.value (c.gap_at-gap.ensures.place, c.gap_at-gap.ensures.low, c.gap_at-gap.ensures.high) in
    let low = found.1 in
    let high = found.2 in
    let end = c.if-end-self.false in
    sym (ap (λ l. begins_with false k (drop c.args.first l)) (sym c.self.view_is)
    ∙ ⊎_elim
    (λ under. low_refused bs g.at c.args.first k c.self.inside.cells c.self.invariant.blocks found.0 c.requires.some (omega arith))
    (λ over. high_refused bs g.at c.args.first k c.self.inside.cells c.self.invariant.blocks found.0 (omega arith) (omega arith))
    (not_held g.low (c.args.first + 1) (c.args.first + k) g.high (sym c.holds.ensures.holds ∙ c.if-not-holds.true)))

-- the cells fit into the gap
fits : (c : goal.After-put)
    → Fits c.self.inside.blocks.items c.gap_at-gap.result (record { first = c.args.first; count = c.args.count })
    (vec_capacity c.self.inside.blocks) c.self.inside.cells
fits c =
    let bs = c.self.inside.blocks.items in
    let g = c.gap_at-gap.result in
    let P : List FreeBlock → Type 0 = λ l. Found c.args.first l g c.self.inside.cells in
    let found : Found c.args.first bs g c.self.inside.cells =
    subst P c.deref.ensures.value (c.gap_at-gap.ensures.place, c.gap_at-gap.ensures.low, c.gap_at-gap.ensures.high) in
    let low = found.1 in
    let high = found.2 in
    let end = c.if-end-self.false in
    let held =
    held_parts g.low (c.args.first + 1) (c.args.first + c.args.count) g.high (sym c.holds.ensures.holds ∙ c.if-not-holds.false) in
    let v = held.0 in
    let w = held.1 in
    record {
      gap = record {
        place = found.0.within;
        some = c.requires.some;
        low = omega arith;
        high = omega arith;
        within = omega arith;
        blocks = c.self.invariant.blocks;
      };
      low = low;
      high = high;
      room = c.self.invariant.room;
      few = c.self.invariant.few;
    }

pub returns-clause-taken : goal.returns-clause-taken
returns-clause-taken c =
    sym (ap (λ l. begins_with false c.args.count (drop c.args.first l)) (sym c.self.view_is)
    ∙ gap_begins c.self.inside.blocks.items c.gap_at-gap.result.at c.args.first c.args.count c.self.inside.cells (fits c).gap)

pub returns-clause-many : goal.returns-clause-many
returns-clause-many c =
    let given = c.put.ensures.given c.self.inside.cells (fits c) in
    cells_many c.put.new.blocks.items c.self.inside.cells given.blocks
    ∙ sym (cells_many c.self.inside.blocks.items c.self.inside.cells c.self.invariant.blocks)
    ∙ ap length c.self.view_is
