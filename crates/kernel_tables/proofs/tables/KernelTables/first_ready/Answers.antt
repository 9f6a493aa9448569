use Rattle.std.proofs.Common.{◌≡◌, ◌∙◌, ℕ, Option, ap, subst, sym}
use Rattle.std.specs.Prelude.{IfSome}
use Rattle.queue_table.specs.Lists.{first_process}
use Rattle.queue_table.specs.Table.{lists}
use Rattle.xinu_base.specs.declared.processes.State.TheVariants.{Ready}
use Rattle.xinu_model.specs.Sound.Tables.{IsInside}
use Rattle.xinu_model.specs.Tables.{state_at, Tables}
use Rattle.semaphores.specs.Counts.{beside}
use Rattle.kernel_tables.specs.Walks.{entries_from}
use Rattle.kernel_tables.proofs.Walking.{first_is_ready, from_first, ready_list}
use Rattle.kernel_tables.proofs.tables.KernelTables.first_ready.Goals as goal

pub returns-clause-all : goal.returns-clause-all
returns-clause-all c =
    let k = c.self.inside in
    let t = c.args.self.now in
    let e = c.first_in.ensures.first ∙ ap first_process (sym (ready_list (lists k.lists) k.procs (beside k.sems k.slots k.clock)) ∙ ap (λ (t : Tables). t.ready) c.self.view_is) in
    ap (λ o. entries_from o t.ready) e ∙ from_first t.ready

pub returns-clause-ready : goal.returns-clause-ready
returns-clause-ready c =
    let k = c.self.inside in
    let t = c.args.self.now in
    let e = c.first_in.ensures.first ∙ ap first_process (sym (ready_list (lists k.lists) k.procs (beside k.sems k.slots k.clock)) ∙ ap (λ (t : Tables). t.ready) c.self.view_is) in
    let P : Option ℕ → Type 0 = λ o. IfSome o (λ p. state_at t p ≡ Ready) in
    subst P (sym e) (first_is_ready t (subst IsInside c.self.view_is c.self.invariant.inside))
