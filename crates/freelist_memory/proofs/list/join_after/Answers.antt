-- The block after is there, and both have few cells.
use Rattle.std.proofs.Common.{sym, ◌∙◌, arith}
use Rattle.freelist_memory.proofs.Puts.{after_in, put_below, read_within}
use Rattle.freelist_memory.proofs.list.join_after.Goals as goal

pub index-after-requires : goal.index-after-requires
index-after-requires c =
    let f = c.requires.fits.1 in
    let w =
    after_in c.args.blocks.now.items c.args.gap.at c.args.block.first c.args.block.count c.requires.fits.0 f.gap
    (c.requires.after ∙ f.high) in
    omega arith

pub overflow_add-block : goal.overflow_add-block
overflow_add-block c =
    let f = c.requires.fits.1 in
    let w =
    after_in c.args.blocks.now.items c.args.gap.at c.args.block.first c.args.block.count c.requires.fits.0 f.gap
    (c.requires.after ∙ f.high) in
    let read =
    read_within c.args.blocks.now.items c.args.gap.at c.index-after.result.now c.requires.fits.0 w c.index-after.ensures f.gap.blocks in
    let few = f.few in
    let within = f.gap.within in
    omega arith

pub index_mut-requires : goal.index_mut-requires
index_mut-requires c =
    let f = c.requires.fits.1 in
    let w =
    after_in c.args.blocks.now.items c.args.gap.at c.args.block.first c.args.block.count c.requires.fits.0 f.gap
    (c.requires.after ∙ f.high) in
    omega arith

pub returns-clause-given : goal.returns-clause-given
returns-clause-given c last f =
    put_below c.args.blocks.now.items c.args.gap.at c.args.block c.index-after.result.now last f.gap
    (λ e. c.requires.before (e ∙ sym f.low)) (c.requires.after ∙ f.high) c.index-after.ensures
