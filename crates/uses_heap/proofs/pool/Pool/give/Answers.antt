use Rattle.std.proofs.Common.{rules, ◌≡◌, ◌==◌, ◌∙◌, true, not, ℕ, List, ap, sym, subst}
use Rattle.std.specs.List.{filter, list_any}
use Rattle.std.specs.Prelude.{unwrap_or}
use Rattle.uses_heap.specs.declared.pool.Pool.TheInside.{Inside}
use Rattle.uses_heap.specs.Pools.{AreRecords}
use Rattle.uses_heap.proofs.Records.{records_drop, records_give}
use Rattle.uses_heap.proofs.pool.Pool.give.Goals as goal
use Rattle.uses_heap.proofs.pool.Pool.give.Goals.{then-contains, else-contains}
use Rattle.xinu_model.specs.Heap.Cells.{Heap, free_memory}

pub invariant_of-self : goal.invariant_of-self
invariant_of-self c =
    let heap = c.self.inside.heap in
    let xs = c.self.inside.taken.items in
    let a = c.args.address in
    let ys = c.leave_out.new.list.items in
    elim c.if-contains.branch [
      | then-contains w ↦ (
          let found : list_any (λ (b : ℕ). b == a) xs ≡ true = search rules in
          let heap_is = ap (λ (i : Inside). i.heap) w.self-inside-is ∙ w.freemem.ensures.stays in
          let items_are = c.leave_out.ensures.others ∙ ap (λ (i : Inside). filter (λ (b : ℕ). not (b == a)) i.taken.items) w.self-inside-is in
          subst (λ (h : Heap). AreRecords h ys) (sym heap_is)
          (subst (λ (l : List ℕ). AreRecords (unwrap_or (free_memory a 24 heap) heap) l) (sym items_are) (records_give heap a xs c.self.invariant found)))
      | else-contains w ↦ (
          let heap_is = ap (λ (i : Inside). i.heap) w.self-inside-is in
          let items_are = c.leave_out.ensures.others ∙ ap (λ (i : Inside). filter (λ (b : ℕ). not (b == a)) i.taken.items) w.self-inside-is in
          subst (λ (h : Heap). AreRecords h ys) (sym heap_is)
          (subst (λ (l : List ℕ). AreRecords heap l) (sym items_are) (records_drop heap (λ (b : ℕ). not (b == a)) xs c.self.invariant)))
    ]
