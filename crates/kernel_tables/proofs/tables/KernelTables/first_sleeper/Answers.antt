use Rattle.std.proofs.Common.{◌≡◌, ◌∙◌, ◌+◌, ℕ, List, Some, None, ap, arith, subst, sym}
use Rattle.process_core.specs.Tables.{sleepers_of}
use Rattle.queue_table.specs.Lists.{first_process, list_at}
use Rattle.queue_table.specs.Table.{lists}
use Rattle.semaphores.specs.Counts.{beside}
use Rattle.xinu_model.specs.Sound.Tables.{IsInside}
use Rattle.xinu_model.specs.Tables.{Tables}
use Rattle.kernel_tables.specs.Walks.{entries_from, StandsAt}
use Rattle.kernel_tables.proofs.Queues.{sleepers_in, ticks_in}
use Rattle.kernel_tables.proofs.WalkingQueues.{listed_placed}
use Rattle.kernel_tables.proofs.WalkingSleepers.{first_listed, first_stands, sleepers_from_first, sleepers_once}
use Rattle.kernel_tables.proofs.tables.KernelTables.first_sleeper.Goals as goal

pub returns-in_err-p-clause-all : goal.returns-in_err-p-clause-all
returns-in_err-p-clause-all c =
    let k = c.self.inside in
    let ls = lists k.lists in
    let l = list_at ls 129 in
    let s = sym (ap (λ (t : Tables). t.sleepers) c.self.view_is) ∙ sleepers_in ls k.procs (beside k.sems k.slots k.clock) in
    let none : None ≡ first_process l = sym c.in_err-p.was ∙ c.first_in.ensures.first in
    let P : List (ℕ × ℕ) → Type 0 = λ m. entries_from None m ≡ m in
    rw c.from_residual.ensures (subst P (sym s) (ap (λ o. entries_from o (sleepers_of k.clock l)) none ∙ sleepers_from_first k.clock l))

pub difference_of-requires : goal.difference_of-requires
difference_of-requires c =
    let k = c.self.inside in
    let first = sym (c.first_in.ensures.first) ∙ c.in_ok-p.was in
    record { placed = listed_placed k.lists c.in_ok-p.p 129 (first_listed c.in_ok-p.p (list_at (lists k.lists) 129) first) }

pub overflow_add-result : goal.overflow_add-result
overflow_add-result c =
    let k = c.self.inside in
    let ls = lists k.lists in
    let l = list_at ls 129 in
    let s = sym (ap (λ (t : Tables). t.sleepers) c.self.view_is) ∙ sleepers_in ls k.procs (beside k.sems k.slots k.clock) in
    let once = sleepers_once c.args.self.now k.clock l (subst IsInside c.self.view_is c.self.invariant.inside) s in
    let first = sym (c.first_in.ensures.first) ∙ c.in_ok-p.was in
    let stands = first_stands k.clock c.in_ok-p.p c.difference_of.result l c.self.invariant.queues.later.delta once first c.difference_of.ensures.difference in
    let most = stands.1 in
    let few = c.requires.few in
    let ticks = c.ticks.ensures.ticks in
    let now = sym (ticks_in ls k.procs (beside k.sems k.slots k.clock)) ∙ ap (λ (t : Tables). t.ticks) c.self.view_is in
    omega arith

pub returns-clause-all : goal.returns-clause-all
returns-clause-all c =
    let k = c.self.inside in
    let ls = lists k.lists in
    let l = list_at ls 129 in
    let s = sym (ap (λ (t : Tables). t.sleepers) c.self.view_is) ∙ sleepers_in ls k.procs (beside k.sems k.slots k.clock) in
    let first = sym (c.in_ok-p.was) ∙ c.first_in.ensures.first in
    let P : List (ℕ × ℕ) → Type 0 = λ m. entries_from (Some c.in_ok-p.p) m ≡ m in
    subst P (sym s) (ap (λ o. entries_from o (sleepers_of k.clock l)) first ∙ sleepers_from_first k.clock l)

pub returns-clause-sleeps : goal.returns-clause-sleeps
returns-clause-sleeps c =
    let k = c.self.inside in
    let ls = lists k.lists in
    let l = list_at ls 129 in
    let s = sym (ap (λ (t : Tables). t.sleepers) c.self.view_is) ∙ sleepers_in ls k.procs (beside k.sems k.slots k.clock) in
    let once = sleepers_once c.args.self.now k.clock l (subst IsInside c.self.view_is c.self.invariant.inside) s in
    let first = sym (c.first_in.ensures.first) ∙ c.in_ok-p.was in
    let stands = first_stands k.clock c.in_ok-p.p c.difference_of.result l c.self.invariant.queues.later.delta once first c.difference_of.ensures.difference in
    let P : List (ℕ × ℕ) → Type 0 = λ m. StandsAt c.in_ok-p.p (c.ticks.result + c.difference_of.result) m in
    let Q : ℕ → Type 0 = λ t. StandsAt c.in_ok-p.p (t + c.difference_of.result) (sleepers_of k.clock l) in
    subst P (sym s) (subst Q (sym c.ticks.ensures.ticks) stands.0)
