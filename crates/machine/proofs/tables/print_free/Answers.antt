use Rattle.std.proofs.Common.{◌∙◌, ◌+◌, sym}
use Rattle.freelist_memory.proofs.Rest.{all_blocks, blocks_above, next_block, no_block}
use Rattle.xinu_model.specs.Heap.Cells.{Block, free_blocks}
use Rattle.xinu_model.specs.Text.{free_line}
use Rattle.machine.proofs.Walks.{both_known, printed_all, printed_next, printed_start, room_smaller}
use Rattle.machine.proofs.tables.print_free.Goals as goal

pub loop-next-init : goal.loop-next-init
loop-next-init g c =
    let h = c.args.heap.now in
    let e = c.block_from-next.ensures in
    (0, e.first, both_known c.block_from-next.result e.some e.in_ram, printed_start free_line (free_blocks h) (blocks_above 0 (free_blocks h)) _ _ (all_blocks h))

pub loop-next-smaller : goal.loop-next-smaller
loop-next-smaller g c =
    let i = c.loop-next.invariant in
    room_smaller (free_blocks c.args.heap.now) c.loop-next.next c.block_from-next-in-Some.result c.in-Some.address c.in-Some.bytes c.in-Some.is i.2 c.block_from-next-in-Some.ensures.first

pub loop-next-preserved : goal.loop-next-preserved
loop-next-preserved g c =
    let h = c.args.heap.now in
    let blocks = free_blocks h in
    let i = c.loop-next.invariant in
    let e = c.block_from-next-in-Some.ensures in
    let b : Block = (c.in-Some.address, c.in-Some.bytes) in (
      b.0 + b.1,
      e.first,
      both_known c.block_from-next-in-Some.result e.some e.in_ram,
      printed_next free_line blocks (blocks_above i.0 blocks) (blocks_above (b.0 + b.1) blocks) b _ _ _ _ _ _ (next_block h i.0 b (sym i.1 ∙ c.in-Some.is)) i.3 c.print_line.ensures.prints,
    )

pub returns : goal.returns
returns g c =
    let h = c.args.heap.now in
    let blocks = free_blocks h in
    let i = c.loop-next.invariant in
    record { prints = printed_all free_line blocks (blocks_above i.0 blocks) _ _ _ _ (no_block h i.0 (sym i.1 ∙ c.in_default.is)) i.3 }
