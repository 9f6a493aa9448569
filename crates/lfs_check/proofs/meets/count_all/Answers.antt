use Rattle.std.proofs.Common.{ap, ◌∙◌, arith, slice_index, nat_le}
use Rattle.lfs_check.specs.Checks.{first_block}
use Rattle.lfs_check.specs.Meets.{times_met}
use Rattle.lfs_check.proofs.Numbered.{first_block-same, twice-same, never-same}
use Rattle.lfs_check.proofs.meets.count_all.Goals as goal

pub returns-clause-rule_6 : goal.returns-clause-rule_6
returns-clause-rule_6 c =
    let g = c.args.geometry in let ic = c.in_ok-index_counts.index_counts.items in let dc = c.in_ok-block_counts.block_counts.items in
    c.twice_block.ensures
    ∙ ap (λ xs. first_block g (λ i. nat_le 2 (slice_index xs i)) (λ b. nat_le 2 (slice_index c.deref-2.result.now b))) c.deref.ensures.value
    ∙ ap (λ xs. first_block g (λ i. nat_le 2 (slice_index ic i)) (λ b. nat_le 2 (slice_index xs b))) c.deref-2.ensures.value
    ∙ first_block-same g (λ i. nat_le 2 (slice_index ic i)) (λ i. nat_le 2 (times_met i c.args.indexes.now)) (λ b. nat_le 2 (slice_index dc b)) (λ b. nat_le 2 (times_met b c.args.blocks.now)) (let d = c.requires.geometry.dirs in let e = c.requires.geometry.few in omega (arith, d, e))
    (λ n h. twice-same n (slice_index ic n) c.args.indexes.now (c.in_ok-index_counts.ensures.each n (omega (arith, h, c.indexes_on.ensures)))) (λ n h. twice-same n (slice_index dc n) c.args.blocks.now (c.in_ok-block_counts.ensures.each n h))

pub returns-clause-rule_7 : goal.returns-clause-rule_7
returns-clause-rule_7 c =
    let g = c.args.geometry in let ic = c.in_ok-index_counts.index_counts.items in let dc = c.in_ok-block_counts.block_counts.items in
    c.missing_block.ensures
    ∙ ap (λ xs. first_block g (λ i. nat_le (slice_index xs i) 0) (λ b. nat_le (slice_index c.deref-4.result.now b) 0)) c.deref-3.ensures.value
    ∙ ap (λ xs. first_block g (λ i. nat_le (slice_index ic i) 0) (λ b. nat_le (slice_index xs b) 0)) c.deref-4.ensures.value
    ∙ first_block-same g (λ i. nat_le (slice_index ic i) 0) (λ i. nat_le (times_met i c.args.indexes.now) 0) (λ b. nat_le (slice_index dc b) 0) (λ b. nat_le (times_met b c.args.blocks.now) 0) (let d = c.requires.geometry.dirs in let e = c.requires.geometry.few in omega (arith, d, e))
    (λ n h. never-same n (slice_index ic n) c.args.indexes.now (c.in_ok-index_counts.ensures.each n (omega (arith, h, c.indexes_on.ensures)))) (λ n h. never-same n (slice_index dc n) c.args.blocks.now (c.in_ok-block_counts.ensures.each n h))
