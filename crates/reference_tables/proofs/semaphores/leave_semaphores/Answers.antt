use Rattle.std.proofs.Common.{◌≡◌, ◌∙◌, ◌<◌, ap, length, arith, rules}
use Rattle.std.specs.Prelude.{slice_index_or, slice_set}
use Rattle.xinu_model.specs.Tables as model
use Rattle.reference_tables.proofs.Changes.{changed_below, unchanged_at, one_more_at}
use Rattle.reference_tables.proofs.semaphores.leave_semaphores.Goals as goal

pub loop-x-preserved : goal.loop-x-preserved
loop-x-preserved c =
    let f = model.semaphore_without c.args.p in
    let l = c.args.list.now.items in
    let i = c.loop-x.x-index in
    let d = c.x-item.result in
    let v : c.deref_mut-x-items.result.now ≡ l = search rules in
    let h : i < length l = omega (arith, ap length v, c.loop-x-test.true) in
    let e : slice_index_or c.loop-x.x-items i d ≡ slice_index_or l i d = ap (λ x. slice_index_or x i d) c.loop-x.invariant
    ∙ unchanged_at f l i d in
    let m = one_more_at f l i d h in
    ap (λ x. slice_set x i c.leave.new.self) c.loop-x.invariant
    ∙ ap (λ x. slice_set (changed_below f i l) i x) (c.leave.ensures.without ∙ ap f e) ∙ m
