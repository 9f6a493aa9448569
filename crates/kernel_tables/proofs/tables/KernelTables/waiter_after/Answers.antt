use Rattle.std.proofs.Common.{◌≡◌, ◌∙◌, ◌<◌, ◌∷◌, ℕ, List, Option, Some, ap, arith, subst, sym}
use Rattle.std.specs.Prelude.{IfSome}
use Rattle.process_core.specs.Tables.{numbers}
use Rattle.queue_table.specs.Lists.{after_in, list_at}
use Rattle.queue_table.specs.Table.{lists}
use Rattle.semaphores.proofs.Counting.{waiters_at}
use Rattle.xinu_model.specs.Sound.Tables.{count_in, IsInside}
use Rattle.xinu_model.specs.Tables.{semaphore_at, Tables}
use Rattle.kernel_tables.specs.Walks.{numbers_from}
use Rattle.kernel_tables.proofs.WalkingQueues.{counted_listed, counted_numbers, listed_placed, numbers_from_next, waiter_counted, waiters_once}
use Rattle.kernel_tables.proofs.tables.KernelTables.waiter_after.Goals as goal

pub next_in-requires : goal.next_in-requires
next_in-requires c =
    let k = c.self.inside in
    let sem = c.args.sem in
    let p = c.args.p in
    let l = list_at (lists k.lists) sem in
    let i = c.index.ensures.index in
    let b = c.index.ensures.bound in
    let w = sym (ap (λ (t : Tables). (semaphore_at t sem).waiters) c.self.view_is) ∙ waiters_at (lists k.lists) k.procs k.sems sem k.slots k.clock c.self.invariant.queues.counts.size (omega (arith, i, b)) in
    let n = counted_numbers p l in
    let some = subst (λ m. 0 < count_in p m) w c.requires.waits in
    record { placed = listed_placed k.lists p sem (counted_listed p l (omega arith)) ∙ ap Some (sym i) }

pub returns-clause-next : goal.returns-clause-next
returns-clause-next c =
    let k = c.self.inside in
    let t = c.args.self.now in
    let sem = c.args.sem in
    let p = c.args.p in
    let l = list_at (lists k.lists) sem in
    let i = c.index.ensures.index in
    let b = c.index.ensures.bound in
    let w = sym (ap (λ (t : Tables). (semaphore_at t sem).waiters) c.self.view_is) ∙ waiters_at (lists k.lists) k.procs k.sems sem k.slots k.clock c.self.invariant.queues.counts.size (omega (arith, i, b)) in
    let n = counted_numbers p l in
    let some = subst (λ m. 0 < count_in p m) w c.requires.waits in
    let e = c.next_in.ensures.next ∙ ap (λ q. after_in p (list_at (lists k.lists) q)) i in
    let once = waiters_once t sem l (subst IsInside c.self.view_is c.self.invariant.inside) w in
    let P : List ℕ → Type 0 = λ m. numbers_from (Some p) m ≡ p ∷ numbers_from c.next_in.result m in
    subst P (sym w) (numbers_from_next p l once (counted_listed p l (omega arith)) ∙ ap (λ o. p ∷ numbers_from o (numbers l)) (sym e))

pub returns-clause-waits : goal.returns-clause-waits
returns-clause-waits c =
    let k = c.self.inside in
    let sem = c.args.sem in
    let p = c.args.p in
    let l = list_at (lists k.lists) sem in
    let i = c.index.ensures.index in
    let b = c.index.ensures.bound in
    let w = sym (ap (λ (t : Tables). (semaphore_at t sem).waiters) c.self.view_is) ∙ waiters_at (lists k.lists) k.procs k.sems sem k.slots k.clock c.self.invariant.queues.counts.size (omega (arith, i, b)) in
    let e = c.next_in.ensures.next ∙ ap (λ q. after_in p (list_at (lists k.lists) q)) i in
    let P : List ℕ → Type 0 = λ m. IfSome c.next_in.result (λ q. 0 < count_in q m) in
    let Q : Option ℕ → Type 0 = λ o. IfSome o (λ q. 0 < count_in q (numbers l)) in
    subst P (sym w) (subst Q (sym e) (waiter_counted p l))
