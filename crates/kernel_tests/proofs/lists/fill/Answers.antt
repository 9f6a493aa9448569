-- `fill`: one process more is in the queue.
use Rattle.std.proofs.Common.{◌∙◌, pos, ap, inl, inr, arith}
use Rattle.std.proofs.lemmas.Bool.{cases_eq}
use Rattle.queue_table.specs.Lists.{place}
use Rattle.queue_table.specs.Table.{lists}
use Rattle.queue_table.proofs.Laws.{place_pushed, queues_of}
use Rattle.kernel_tests.proofs.lists.fill.Goals as goal

pub loop-p-preserved : goal.loop-p-preserved
loop-p-preserved c =
    let t = c.loop-p.table in
    let i = c.loop-p.invariant in
    let r = place_pushed (lists t) 0 c.loop-p.p (pos 0) (i.1 c.loop-p.p (omega arith)) (omega (arith, queues_of t)) in (
      λ p lt. ap (λ ls. place ls p) c.enqueue.ensures.lists ∙ elim (cases_eq p c.loop-p.p) [
        | inl s ↦ ap (place _) s ∙ r.0
        | inr n ↦ r.1 p n ∙ i.0 p (omega arith)
      ],
      λ p le. ap (λ ls. place ls p) c.enqueue.ensures.lists ∙ r.1 p (omega arith) ∙ i.1 p (omega arith),
    )
