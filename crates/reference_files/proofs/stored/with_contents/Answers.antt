use Rattle.std.proofs.Common.{◌≡◌, ◌∙◌, ◌<◌, ap, length, arith, rules}
use Rattle.std.specs.Prelude.{slice_index_or, slice_set}
use Rattle.xinu_model.specs.Files.Stored as model
use Rattle.reference_tables.proofs.Changes.{changed_below, unchanged_at, one_more_at}
use Rattle.reference_files.proofs.stored.with_contents.Goals as goal

pub loop-file-preserved : goal.loop-file-preserved
loop-file-preserved c =
    let f = model.rewritten c.args.name.now c.args.bytes.now in
    let l = c.args.files.now.items in
    let i = c.loop-file.file-index in
    let d = c.file-item.result in
    let v : c.deref_mut-file-items.result.now ≡ l = search rules in
    let h : i < length l = omega (arith, ap length v, c.loop-file-test.true) in
    let e : slice_index_or c.loop-file.file-items i d ≡ slice_index_or l i d = ap (λ x. slice_index_or x i d) c.loop-file.invariant
    ∙ unchanged_at f l i d in
    ap (λ x. slice_set x i c.rewrite.new.file) c.loop-file.invariant
    ∙ ap (λ x. slice_set (changed_below f i l) i x) (c.in_ok-rewrite.ensures.rewritten ∙ ap f e) ∙ one_more_at f l i d h
