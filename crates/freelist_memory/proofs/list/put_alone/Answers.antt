-- A block that touches none: there is a record for it.
use Rattle.std.proofs.Common.{◌≡◌, ◌+◌, ◌/◌, ◌<◌, length, List, sym, ap, ◌∙◌, subst, cond, arith}
use Rattle.std.specs.Result.{is_ok}
use Rattle.std.specs.List.{insert}
use Rattle.freelist_memory.specs.Gaps.{IsGiven}
use Rattle.freelist_memory.specs.declared.blocks.FreeBlock.{FreeBlock}
use Rattle.freelist_memory.proofs.Puts as puts
use Rattle.freelist_memory.proofs.list.put_alone.Goals as goal

room : (c : goal.After-insert) → length c.args.blocks.now.items < c.requires.fits.0 / 2 + 1
room c =
    let f = c.requires.fits.1 in
    puts.alone_room c.args.blocks.now.items c.args.gap.at c.args.block c.requires.fits.0 f.gap (λ e. c.requires.before (e ∙ sym f.low))
    (λ e. c.requires.after (e ∙ sym f.high))

pub unwrap-requires : goal.unwrap-requires
unwrap-requires c =
    let r = room c in
    let capacity = c.requires.fits.1.room in
    c.insert.ensures.succeeds (omega arith)

pub returns-clause-given : goal.returns-clause-given
returns-clause-given c last f =
    let bs = c.args.blocks.now.items in
    let P : List FreeBlock → Type 0 = λ l. IsGiven bs l c.args.block.first c.args.block.count last in
    let new : c.insert.new.self.items ≡ insert bs c.args.gap.at c.args.block =
    c.insert.ensures.items ∙ ap (λ r. cond (is_ok r) (insert bs c.args.gap.at c.args.block) bs) c.unwrap.ensures in
    subst P (sym new)
    (puts.put_alone bs c.args.gap.at c.args.block last f.gap (λ e. c.requires.before (e ∙ sym f.low))
    (λ e. c.requires.after (e ∙ sym f.high)))

pub returns-clause-capacity : goal.returns-clause-capacity
returns-clause-capacity c =
    let f = c.requires.fits.1 in
    let r =
    puts.alone_room c.args.blocks.now.items c.args.gap.at c.args.block c.requires.fits.0 f.gap (λ e. c.requires.before (e ∙ sym f.low))
    (λ e. c.requires.after (e ∙ sym f.high)) in
    let capacity = f.room in
    (c.insert.ensures.in_place (omega arith)).1.0
