-- Both blocks are there, and all three have few cells.
use Rattle.std.proofs.Common.{◌+◌, ◌-◌, List, sym, ◌∙◌, subst, arith}
use Rattle.std.specs.Prelude.{slice_set}
use Rattle.freelist_memory.specs.Gaps.{IsGiven}
use Rattle.freelist_memory.specs.declared.blocks.FreeBlock.{FreeBlock}
use Rattle.freelist_memory.proofs.Puts.{after_in, before_in, put_between, read_within}
use Rattle.freelist_memory.proofs.list.join_both.Goals as goal

pub remove-after-requires : goal.remove-after-requires
remove-after-requires c =
    let f = c.requires.fits.1 in
    let w =
    after_in c.args.blocks.now.items c.args.gap.at c.args.block.first c.args.block.count c.requires.fits.0 f.gap
    (c.requires.after ∙ f.high) in
    omega arith

pub overflow_add-before-2 : goal.overflow_add-before-2
overflow_add-before-2 c =
    let f = c.requires.fits.1 in
    let bs = c.args.blocks.now.items in
    let p = before_in bs c.args.gap.at c.args.block.first c.args.block.count c.requires.fits.0 f.gap (c.requires.before ∙ f.low) in
    let place = f.gap.place in
    let w = after_in bs c.args.gap.at c.args.block.first c.args.block.count c.requires.fits.0 f.gap (c.requires.after ∙ f.high) in
    let before =
    read_within bs (c.args.gap.at - 1) c.index-before.result.now c.requires.fits.0 (omega arith) c.index-before.ensures f.gap.blocks in
    let after = read_within bs c.args.gap.at c.remove-after.result c.requires.fits.0 w c.remove-after.ensures.value f.gap.blocks in
    let few = f.few in
    let within = f.gap.within in
    omega arith

pub returns-clause-given : goal.returns-clause-given
returns-clause-given c last f =
    let bs = c.args.blocks.now.items in
    let new : FreeBlock =
    record {
      first = c.index-before.result.now.first;
      count = c.index-before.result.now.count + c.args.block.count + c.remove-after.result.count;
    }
    in
    let P : List FreeBlock → Type 0 = λ l. IsGiven bs (slice_set l (c.args.gap.at - 1) new) c.args.block.first c.args.block.count last in
    subst P (sym c.remove-after.ensures.items)
    (put_between bs c.args.gap.at c.args.block c.index-before.result.now c.remove-after.result last f.gap (c.requires.before ∙ f.low)
    (c.requires.after ∙ f.high) c.index-before.ensures c.remove-after.ensures.value)
