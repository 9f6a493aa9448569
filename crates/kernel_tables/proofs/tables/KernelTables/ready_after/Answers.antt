use Rattle.std.proofs.Common.{◌≡◌, ◌∙◌, ◌∷◌, ℕ, Option, ap, subst, sym}
use Rattle.std.specs.Prelude.{IfSome}
use Rattle.process_core.proofs.Inside.{inside_fits}
use Rattle.queue_table.specs.Lists.{after_in}
use Rattle.queue_table.specs.Table.{lists}
use Rattle.xinu_base.specs.declared.processes.State.TheVariants.{Ready}
use Rattle.xinu_model.specs.Sound.Tables.{IsInside}
use Rattle.xinu_model.specs.Tables.{state_at, Tables}
use Rattle.semaphores.specs.Counts.{beside}
use Rattle.kernel_tables.specs.Walks.{entries_from}
use Rattle.xinu_model.specs.Tables.{process_at}
use Rattle.kernel_tables.proofs.Queues.{state_in}
use Rattle.kernel_tables.proofs.Walking.{next_is_ready, ready_from_next, ready_list}
use Rattle.kernel_tables.proofs.tables.KernelTables.ready_after.Goals as goal

pub next_in-requires : goal.next_in-requires
next_in-requires c =
    let k = c.self.inside in
    let b = beside k.sems k.slots k.clock in
    let h : state_at c.args.self.now c.args.p ≡ Ready = c.requires.ready in
    record { placed = (inside_fits k.lists k.procs b c.self.invariant.inside).ready c.args.p (sym (state_in (lists k.lists) k.procs b c.args.p) ∙ ap (λ (t : Tables). state_at t c.args.p) c.self.view_is ∙ h) }

pub returns-clause-next : goal.returns-clause-next
returns-clause-next c =
    let k = c.self.inside in
    let t = c.args.self.now in
    let p = c.args.p in
    let e = c.next_in.ensures.next ∙ ap (after_in p) (sym (ready_list (lists k.lists) k.procs (beside k.sems k.slots k.clock)) ∙ ap (λ (t : Tables). t.ready) c.self.view_is) in
    ready_from_next t p (subst IsInside c.self.view_is c.self.invariant.inside) c.requires.ready
    ∙ ap (λ o. (p, (process_at t p).priority) ∷ entries_from o t.ready) (sym e)

pub returns-clause-ready : goal.returns-clause-ready
returns-clause-ready c =
    let k = c.self.inside in
    let t = c.args.self.now in
    let p = c.args.p in
    let e = c.next_in.ensures.next ∙ ap (after_in p) (sym (ready_list (lists k.lists) k.procs (beside k.sems k.slots k.clock)) ∙ ap (λ (t : Tables). t.ready) c.self.view_is) in
    let P : Option ℕ → Type 0 = λ o. IfSome o (λ q. state_at t q ≡ Ready) in
    subst P (sym e) (next_is_ready t p (subst IsInside c.self.view_is c.self.invariant.inside))
