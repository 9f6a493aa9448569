-- The next block has the address, or the blocks after it may.
use Rattle.std.proofs.Common.{◌∙◌, ◌+◌, ◌||◌, Bool, List, ap, sym, arith}
use Rattle.std.specs.List.{list_any}
use Rattle.freelist_memory.proofs.Rest.{all_blocks, blocks_above, found_above, next_block, no_block}
use Rattle.memory_strays.specs.Looks.{is_in_block}
use Rattle.xinu_model.specs.Heap.Cells.{Block, free_blocks}
use Rattle.memory_strays.proofs.looks.is_free.Goals as goal

pub loop-start-init : goal.loop-start-init
loop-start-init c = record { inside = omega arith; left = ap (λ (bs : List Block). list_any (is_in_block c.args.address) bs) (sym (all_blocks c.args.heap.now)) }

pub returns-then-is_in_block : goal.returns-then-is_in_block
returns-then-is_in_block c =
    let a = c.args.address in
    let b : Block = (c.in-Some.start, c.in-Some.bytes) in
    let rest = blocks_above (b.0 + b.1) (free_blocks c.args.heap.now) in
    let next = next_block c.args.heap.now c.loop-start.from b (sym c.block_from.ensures.first ∙ c.in-Some.is) in
    record {
      free = sym (c.loop-start.invariant.left ∙ ap (λ (bs : List Block). list_any (is_in_block a) bs) next
          ∙ ap (λ (t : Bool). t || list_any (is_in_block a) rest) (sym c.is_in_block.ensures.is ∙ c.if-is_in_block.true));
    }

pub loop-start-smaller : goal.loop-start-smaller
loop-start-smaller c =
    let b : Block = (c.in-Some.start, c.in-Some.bytes) in
    let above = found_above c.loop-start.from (free_blocks c.args.heap.now) b (sym c.block_from.ensures.first ∙ c.in-Some.is) in
    omega (arith, above, c.in-Some.ensures.some, c.in-Some.ensures.in_ram)

pub loop-start-preserved : goal.loop-start-preserved
loop-start-preserved c =
    let a = c.args.address in
    let b : Block = (c.in-Some.start, c.in-Some.bytes) in
    let rest = blocks_above (b.0 + b.1) (free_blocks c.args.heap.now) in
    let next = next_block c.args.heap.now c.loop-start.from b (sym c.block_from.ensures.first ∙ c.in-Some.is) in
    record {
      inside = c.in-Some.ensures.in_ram;
      left = c.loop-start.invariant.left ∙ ap (λ (bs : List Block). list_any (is_in_block a) bs) next
          ∙ ap (λ (t : Bool). t || list_any (is_in_block a) rest) (sym c.is_in_block.ensures.is ∙ c.if-is_in_block.false);
    }

pub returns : goal.returns
returns c =
    let none = no_block c.args.heap.now c.loop-start.from (sym c.block_from.ensures.first ∙ c.in_default.is) in
    record { free = sym (c.loop-start.invariant.left ∙ ap (λ (bs : List Block). list_any (is_in_block c.args.address) bs) none) }
