use Rattle.std.proofs.Common.{◌∙◌, ◌+◌, ◌*◌, ◌<◌, ◌≤◌, Option, sym, ap, arith, subst}
use Rattle.std.specs.Prelude.{IfSome}
use Rattle.std.specs.List.{list_any}
use Rattle.freelist_memory.proofs.Rest.{all_blocks, blocks_above, next_block, no_block}
use Rattle.refusal_reasons.proofs.Blocks.{found_here, found_later, found_nowhere}
use Rattle.machine.proofs.Walks.{both_known, room_smaller}
use Rattle.xinu_model.specs.Heap.Cells.{Block, cells_for, free_blocks}
use Rattle.xinu_model.specs.Memory.{ranges_meet}
use Rattle.refusal_reasons.proofs.memory_causes.are_free.Goals as goal

pub loop-next-init : goal.loop-next-init
loop-next-init c =
    let h = c.args.heap.now in
    let e = c.block_from-next.ensures in
    (0, e.first, both_known c.block_from-next.result e.some e.in_ram, ap (list_any (λ b. ranges_meet c.args.a (8 * cells_for c.args.n) b.0 b.1)) (sym (all_blocks h)))

pub loop-next-smaller : goal.loop-next-smaller
loop-next-smaller c =
    let i = c.loop-next.invariant in
    room_smaller (free_blocks c.args.heap.now) c.loop-next.next c.block_from-next-in-Some.result c.in-Some.address c.in-Some.size c.in-Some.is i.2 c.block_from-next-in-Some.ensures.first

pub loop-next-preserved : goal.loop-next-preserved
loop-next-preserved c =
    let h = c.args.heap.now in
    let blocks = free_blocks h in
    let i = c.loop-next.invariant in
    let e = c.block_from-next-in-Some.ensures in
    let b : Block = (c.in-Some.address, c.in-Some.size) in (
      b.0 + b.1,
      e.first,
      both_known c.block_from-next-in-Some.result e.some e.in_ram,
      found_later (λ x. ranges_meet c.args.a (8 * cells_for c.args.n) x.0 x.1) blocks (blocks_above i.0 blocks) (blocks_above (b.0 + b.1) blocks) b i.3 (next_block h i.0 b (sym i.1 ∙ c.in-Some.is)) (sym c.do_meet.ensures.meet ∙ c.if-do_meet.false),
    )

pub returns-then-do_meet : goal.returns-then-do_meet
returns-then-do_meet c =
    let h = c.args.heap.now in
    let i = c.loop-next.invariant in
    let b : Block = (c.in-Some.address, c.in-Some.size) in
    record {
      free = found_here (λ x. ranges_meet c.args.a (8 * cells_for c.args.n) x.0 x.1) (free_blocks h) (blocks_above i.0 (free_blocks h)) (blocks_above (b.0 + b.1) (free_blocks h)) b i.3
          (next_block h i.0 b (sym i.1 ∙ c.in-Some.is)) (sym c.do_meet.ensures.meet ∙ c.if-do_meet.true);
    }

pub returns : goal.returns
returns c =
    let h = c.args.heap.now in
    let i = c.loop-next.invariant in
    record {
      free = found_nowhere (λ x. ranges_meet c.args.a (8 * cells_for c.args.n) x.0 x.1) (free_blocks h) (blocks_above i.0 (free_blocks h)) i.3 (no_block h i.0 (sym i.1 ∙ c.in_default.is));
    }

pub overflow_add-address : goal.overflow_add-address
overflow_add-address c =
    let P : Option Block → Type 0 = λ o. IfSome o (λ b. (0 < b.1) × (b.0 + b.1 ≤ 1048576)) in
    let k = subst P c.in-Some.is c.loop-next.invariant.2 in
    omega (arith, k.1)
