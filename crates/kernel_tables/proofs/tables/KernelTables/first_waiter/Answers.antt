use Rattle.std.proofs.Common.{◌≡◌, ◌∙◌, ◌<◌, ℕ, List, Option, ap, arith, subst, sym}
use Rattle.std.specs.Prelude.{IfSome}
use Rattle.process_core.specs.Tables.{numbers}
use Rattle.queue_table.specs.Lists.{first_process, list_at}
use Rattle.queue_table.specs.Table.{lists}
use Rattle.semaphores.proofs.Counting.{waiters_at}
use Rattle.xinu_model.specs.Sound.Tables.{count_in}
use Rattle.xinu_model.specs.Tables.{semaphore_at, Tables}
use Rattle.kernel_tables.specs.Walks.{numbers_from}
use Rattle.kernel_tables.proofs.WalkingQueues.{first_waits, numbers_from_first}
use Rattle.kernel_tables.proofs.tables.KernelTables.first_waiter.Goals as goal

pub returns-clause-all : goal.returns-clause-all
returns-clause-all c =
    let k = c.self.inside in
    let sem = c.args.sem in
    let l = list_at (lists k.lists) sem in
    let i = c.index.ensures.index in
    let b = c.index.ensures.bound in
    let w = sym (ap (λ (t : Tables). (semaphore_at t sem).waiters) c.self.view_is) ∙ waiters_at (lists k.lists) k.procs k.sems sem k.slots k.clock c.self.invariant.queues.counts.size (omega (arith, i, b)) in
    let e = c.first_in.ensures.first ∙ ap (λ q. first_process (list_at (lists k.lists) q)) i in
    let P : List ℕ → Type 0 = λ m. numbers_from c.first_in.result m ≡ m in
    subst P (sym w) (ap (λ o. numbers_from o (numbers l)) e ∙ numbers_from_first l)

pub returns-clause-waits : goal.returns-clause-waits
returns-clause-waits c =
    let k = c.self.inside in
    let sem = c.args.sem in
    let l = list_at (lists k.lists) sem in
    let i = c.index.ensures.index in
    let b = c.index.ensures.bound in
    let w = sym (ap (λ (t : Tables). (semaphore_at t sem).waiters) c.self.view_is) ∙ waiters_at (lists k.lists) k.procs k.sems sem k.slots k.clock c.self.invariant.queues.counts.size (omega (arith, i, b)) in
    let e = c.first_in.ensures.first ∙ ap (λ q. first_process (list_at (lists k.lists) q)) i in
    let P : List ℕ → Type 0 = λ m. IfSome c.first_in.result (λ p. 0 < count_in p m) in
    let Q : Option ℕ → Type 0 = λ o. IfSome o (λ p. 0 < count_in p (numbers l)) in
    subst P (sym w) (subst Q (sym e) (first_waits l))
