-- The block before is there.
use Rattle.std.proofs.Common.{sym, ◌∙◌}
use Rattle.freelist_memory.proofs.Puts.{put_above}
use Rattle.freelist_memory.proofs.list.join_before.Goals as goal

pub returns-clause-given : goal.returns-clause-given
returns-clause-given c last f =
    put_above c.args.blocks.now.items c.args.gap.at c.args.block c.index-before.result.now last f.gap (c.requires.before ∙ f.low)
    (λ e. c.requires.after (e ∙ sym f.high)) c.index-before.ensures
