use Rattle.std.proofs.Common.{◌≡◌, ◌∙◌, ◌+◌, ◌∷◌, ℕ, List, Some, None, ap, arith, subst, sym}
use Rattle.process_core.specs.Tables.{sleepers_of}
use Rattle.queue_table.specs.Lists.{after_in, list_at}
use Rattle.queue_table.specs.Table.{lists}
use Rattle.semaphores.specs.Counts.{beside}
use Rattle.xinu_model.specs.Sound.Tables.{IsInside}
use Rattle.xinu_model.specs.Tables.{Tables}
use Rattle.kernel_tables.specs.Walks.{entries_from, StandsAt}
use Rattle.kernel_tables.proofs.Queues.{sleepers_in, ticks_in}
use Rattle.kernel_tables.proofs.Walking.{after_counted}
use Rattle.kernel_tables.proofs.WalkingQueues.{counted_listed, listed_placed}
use Rattle.kernel_tables.proofs.WalkingSleepers.{next_stands, sleepers_once, sleepers_walk, stands_listed}
use Rattle.kernel_tables.proofs.tables.KernelTables.sleeper_after.Goals as goal

pub next_in-requires : goal.next_in-requires
next_in-requires c =
    let k = c.self.inside in
    let ls = lists k.lists in
    let l = list_at ls 129 in
    let s = sym (ap (λ (t : Tables). t.sleepers) c.self.view_is) ∙ sleepers_in ls k.procs (beside k.sems k.slots k.clock) in
    let once = sleepers_once c.args.self.now k.clock l (subst IsInside c.self.view_is c.self.invariant.inside) s in
    let at = subst (StandsAt c.args.p c.args.wake) s c.requires.sleeps in
    record { placed = listed_placed k.lists c.args.p 129 (stands_listed k.clock c.args.p c.args.wake l once at) }

pub returns-in_err-next-clause-next : goal.returns-in_err-next-clause-next
returns-in_err-next-clause-next c =
    let k = c.self.inside in
    let ls = lists k.lists in
    let l = list_at ls 129 in
    let s = sym (ap (λ (t : Tables). t.sleepers) c.self.view_is) ∙ sleepers_in ls k.procs (beside k.sems k.slots k.clock) in
    let once = sleepers_once c.args.self.now k.clock l (subst IsInside c.self.view_is c.self.invariant.inside) s in
    let at = subst (StandsAt c.args.p c.args.wake) s c.requires.sleeps in
    let none : None ≡ after_in c.args.p l = sym c.in_err-next.was ∙ c.next_in.ensures.next in
    let P : List (ℕ × ℕ) → Type 0 = λ m. entries_from (Some c.args.p) m ≡ (c.args.p, c.args.wake) ∷ entries_from None m in
    rw c.from_residual.ensures (subst P (sym s) (sleepers_walk k.clock c.args.p c.args.wake l once at ∙ ap (λ o. (c.args.p, c.args.wake) ∷ entries_from o (sleepers_of k.clock l)) (sym none)))

pub difference_of-requires : goal.difference_of-requires
difference_of-requires c =
    let k = c.self.inside in
    let ls = lists k.lists in
    let l = list_at ls 129 in
    let s = sym (ap (λ (t : Tables). t.sleepers) c.self.view_is) ∙ sleepers_in ls k.procs (beside k.sems k.slots k.clock) in
    let once = sleepers_once c.args.self.now k.clock l (subst IsInside c.self.view_is c.self.invariant.inside) s in
    let at = subst (StandsAt c.args.p c.args.wake) s c.requires.sleeps in
    let next = sym (c.next_in.ensures.next) ∙ c.in_ok-next.was in
    record { placed = listed_placed k.lists c.in_ok-next.next 129 (counted_listed c.in_ok-next.next l (after_counted c.args.p l c.in_ok-next.next next)) }

pub overflow_add-result : goal.overflow_add-result
overflow_add-result c =
    let k = c.self.inside in
    let ls = lists k.lists in
    let l = list_at ls 129 in
    let s = sym (ap (λ (t : Tables). t.sleepers) c.self.view_is) ∙ sleepers_in ls k.procs (beside k.sems k.slots k.clock) in
    let once = sleepers_once c.args.self.now k.clock l (subst IsInside c.self.view_is c.self.invariant.inside) s in
    let at = subst (StandsAt c.args.p c.args.wake) s c.requires.sleeps in
    let next = sym (c.next_in.ensures.next) ∙ c.in_ok-next.was in
    let stands = next_stands k.clock c.args.p c.args.wake c.in_ok-next.next c.difference_of.result l c.self.invariant.queues.later.delta once at next c.difference_of.ensures.difference in
    let most = stands.1 in
    let few = c.requires.few in
    let now = sym (ticks_in ls k.procs (beside k.sems k.slots k.clock)) ∙ ap (λ (t : Tables). t.ticks) c.self.view_is in
    omega arith

pub returns-clause-next : goal.returns-clause-next
returns-clause-next c =
    let k = c.self.inside in
    let ls = lists k.lists in
    let l = list_at ls 129 in
    let s = sym (ap (λ (t : Tables). t.sleepers) c.self.view_is) ∙ sleepers_in ls k.procs (beside k.sems k.slots k.clock) in
    let once = sleepers_once c.args.self.now k.clock l (subst IsInside c.self.view_is c.self.invariant.inside) s in
    let at = subst (StandsAt c.args.p c.args.wake) s c.requires.sleeps in
    let next = sym (c.in_ok-next.was) ∙ c.next_in.ensures.next in
    let P : List (ℕ × ℕ) → Type 0 = λ m. entries_from (Some c.args.p) m ≡ (c.args.p, c.args.wake) ∷ entries_from (Some c.in_ok-next.next) m in
    subst P (sym s) (sleepers_walk k.clock c.args.p c.args.wake l once at ∙ ap (λ o. (c.args.p, c.args.wake) ∷ entries_from o (sleepers_of k.clock l)) (sym next))

pub returns-clause-sleeps : goal.returns-clause-sleeps
returns-clause-sleeps c =
    let k = c.self.inside in
    let ls = lists k.lists in
    let l = list_at ls 129 in
    let s = sym (ap (λ (t : Tables). t.sleepers) c.self.view_is) ∙ sleepers_in ls k.procs (beside k.sems k.slots k.clock) in
    let once = sleepers_once c.args.self.now k.clock l (subst IsInside c.self.view_is c.self.invariant.inside) s in
    let at = subst (StandsAt c.args.p c.args.wake) s c.requires.sleeps in
    let next = sym (c.next_in.ensures.next) ∙ c.in_ok-next.was in
    let stands = next_stands k.clock c.args.p c.args.wake c.in_ok-next.next c.difference_of.result l c.self.invariant.queues.later.delta once at next c.difference_of.ensures.difference in
    let P : List (ℕ × ℕ) → Type 0 = λ m. StandsAt c.in_ok-next.next (c.args.wake + c.difference_of.result) m in
    subst P (sym s) stands.0
