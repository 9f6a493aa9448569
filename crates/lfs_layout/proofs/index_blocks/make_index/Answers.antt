use Rattle.std.proofs.Common.{◌≡◌, ◌+◌, ◌*◌, ◌++◌, suc, slice_index_or, take, drop, replicate, ap, ◌∙◌, arith}
use Rattle.lfs_format.specs.declared.Index.{Index}
use Rattle.lfs_check.specs.Empty.{upwards}
use Rattle.lfs_check.specs.Meets.{null}
use Rattle.lfs_layout.proofs.FilesRead.{row_is}
use Rattle.lfs_layout.proofs.index_blocks.make_index.Goals as goal

pub returns : goal.returns
returns c =
    let j = c.args.j in let chain = upwards c.args.first c.args.count in let ds = upwards c.args.data_first c.args.data_count in
    let row : c.loop-k.blocks ≡ take 16 (drop (16 * j) ds ++ replicate 16 null) =
    row_is c.loop-k.blocks ds (16 * j) c.loop-k.invariant.len (λ i h. c.loop-k.invariant.each i (omega arith)) in
    let next : c.number_at-2.result ≡ slice_index_or chain (suc j) null = c.number_at-2.ensures ∙ ap (λ k. slice_index_or chain k null) (let e : j + 1 ≡ suc j = omega arith in e) in
    ap (λ n. let r : Index = record { next = n; offset = 8192 * j; blocks = c.loop-k.blocks } in r) next
    ∙ ap (λ b. let r : Index = record { next = slice_index_or chain (suc j) null; offset = 8192 * j; blocks = b } in r) row
