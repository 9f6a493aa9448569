use Rattle.std.proofs.Common.{◌+◌, sym}
use Rattle.freelist_memory.proofs.Gaps.{ceiling_in, ceiling_past}
use Rattle.freelist_memory.proofs.blocks.gap_at.Goals as goal

pub returns-then-at-blocks-clause-high : goal.returns-then-at-blocks-clause-high
returns-then-at-blocks-clause-high c = sym (ceiling_in c.place_of-at.result c.args.blocks.now (c.args.cells + 1) c.if-at-blocks.true)

pub returns-else-at-blocks-clause-high : goal.returns-else-at-blocks-clause-high
returns-else-at-blocks-clause-high c = sym (ceiling_past c.place_of-at.result c.args.blocks.now (c.args.cells + 1) c.if-at-blocks.false)
