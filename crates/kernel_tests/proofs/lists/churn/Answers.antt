-- `churn`: each removal and insertion leaves every process in the queue.
use Rattle.std.proofs.Common.{◌≡◌, ◌∙◌, ◌+◌, ◌%◌, ℕ, None, pos, ap, inl, inr, arith}
use Rattle.std.proofs.lemmas.Bool.{cases_eq}
use Rattle.queue_table.specs.Lists.{place}
use Rattle.queue_table.specs.Table.{lists}
use Rattle.queue_table.proofs.Laws.{place_pushed, place_without_other, place_without_same, queues_of}
use Rattle.kernel_tests.proofs.lists.churn.Goals as goal

pub enqueue-requires : goal.enqueue-requires
enqueue-requires c =
    let p : ℕ = 30000 + c.loop-j.j % 30000 in
    (omega arith, (omega arith, (omega arith, ap (λ ls. place ls p) c.remove.ensures.lists ∙ place_without_same (lists c.loop-j.table) p)))

pub loop-j-preserved : goal.loop-j-preserved
loop-j-preserved c = λ r lt.
    let t = c.remove.new.self in
    let p : ℕ = 30000 + c.loop-j.j % 30000 in
    let none : place (lists t) p ≡ None = ap (λ ls. place ls p) c.remove.ensures.lists ∙ place_without_same (lists c.loop-j.table) p in
    let l = place_pushed (lists t) 0 p (pos 0) none (omega (arith, queues_of t)) in
    ap (λ ls. place ls r) c.enqueue.ensures.lists ∙ elim (cases_eq r p) [
      | inl s ↦ ap (place _) s ∙ l.0
      | inr n ↦ l.1 r n ∙ ap (λ ls. place ls r) c.remove.ensures.lists ∙ place_without_other (lists c.loop-j.table) p r n ∙ c.loop-j.invariant r lt
    ]
