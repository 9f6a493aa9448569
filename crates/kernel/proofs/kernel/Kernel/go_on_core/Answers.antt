use Rattle.std.proofs.Common.{◌≡◌, ◌∙◌, Some, ap, sym, subst}
use Rattle.kernel.specs.Kernels.{kernel_result}
use Rattle.part_laws.specs.Preserve.{KeepsAll}
use Rattle.xinu_model.specs.Machine.{CallResult}
use Rattle.kernel.proofs.Kept.{idle_may_call}
use Rattle.xinu_laws.proofs.Preserve.Calls.{continued_keeps}
use Rattle.xinu_model.specs.Calls.{continued}
use Rattle.xinu_model.specs.Tables.{process_at}
use Rattle.kernel.proofs.Values.{came_is}
use Rattle.kernel.proofs.kernel.Kernel.go_on_core.Goals as goal

pub invariant_of-self : goal.invariant_of-self
invariant_of-self c =
    let h = c.args.self.now.came in
    let t = h.call.state.tables in
    let old : KeepsAll h = subst KeepsAll (came_is c.self.view_is) c.self.invariant.keeps in
    let e : kernel_result (record { state = c.go_on-next.new.k; answer = Some c.go_on-next.result }) ≡ continued (process_at t t.current).rest h.call.state
    = c.go_on-next.ensures.continued ∙ ap (λ (h : CallResult). continued (process_at h.call.state.tables h.call.state.tables.current).rest h.call.state) (came_is c.self.view_is) in
    record { keeps = subst KeepsAll (sym e) (continued_keeps h.call.state (idle_may_call h c.requires.idle old c.requires.not_null)) }
