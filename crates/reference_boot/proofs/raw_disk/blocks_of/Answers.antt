use Rattle.std.proofs.Common.{◌∙◌, ◌+◌, ◌*◌, ◌-◌, length, arith, ap}
use Rattle.reference_boot.proofs.Chunks.{block_more, count_chunks}
use Rattle.reference_boot.proofs.raw_disk.blocks_of.Goals as goal

pub loop-n-preserved : goal.loop-n-preserved
loop-n-preserved c =
    let n = c.loop-n.n in
    c.in_ok-push.ensures.pushed
    ∙ block_more c.args.bytes.now c.loop-n.blocks.items n ((512 * n + 512) - 512 * n) c.in_ok-block.block.items c.loop-n.invariant
    c.in_ok-block.ensures.copied (omega arith)

pub returns-clause-count : goal.returns-clause-count
returns-clause-count c =
    let count = ap length c.loop-n.invariant ∙ count_chunks 512 c.loop-n.n c.args.bytes.now in
    let most = c.loop-n.auto.n-end in
    let all = c.loop-n-test.false in
    omega (arith, count, most, all)
