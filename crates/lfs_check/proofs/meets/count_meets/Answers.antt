use Rattle.std.proofs.Common.{arith, ◌≡◌, ◌∙◌, ap, slice_index, length}
use Rattle.lfs_check.specs.Meets.{counted_more}
use Rattle.lfs_check.proofs.Counts.{counted-more, length-counted}
use Rattle.lfs_check.proofs.meets.count_meets.Goals as goal

pub loop-m-preserved : goal.loop-m-preserved
loop-m-preserved c =
    let i = c.loop-m.invariant in
    let e : c.count_one.new.counts.items ≡ counted_more c.loop-m.counts.items (slice_index c.args.met.now c.loop-m.m-index) = c.count_one.ensures in
    record {
      len = ap length e ∙ length-counted c.loop-m.counts.items (slice_index c.args.met.now c.loop-m.m-index) ∙ i.len;
      each = λ n h. ap (λ x. slice_index x n) e ∙ counted-more c.loop-m.counts.items c.args.met.now c.args.high c.loop-m.m-index (omega arith) i.len i.each n h;
    }
