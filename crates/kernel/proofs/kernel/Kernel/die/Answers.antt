use Rattle.std.proofs.Common.{◌≡◌, ◌∙◌, Some, ap, sym, subst}
use Rattle.kernel.specs.Kernels.{kernel_result}
use Rattle.part_laws.specs.Preserve.{KeepsAll}
use Rattle.xinu_model.specs.Machine.{CallResult}
use Rattle.kernel.proofs.Kept.{idle_may_call}
use Rattle.xinu_laws.proofs.Preserve.Calls.{exit_keeps}
use Rattle.xinu_model.specs.Process.Death.{exit}
use Rattle.kernel.proofs.Values.{came_is}
use Rattle.kernel.proofs.kernel.Kernel.die.Goals as goal

pub invariant_of-self : goal.invariant_of-self
invariant_of-self c =
    let h = c.args.self.now.came in
    let old : KeepsAll h = subst KeepsAll (came_is c.self.view_is) c.self.invariant.keeps in
    let e : kernel_result (record { state = c.exit-next.new.k; answer = Some c.exit-next.result }) ≡ exit h.call.state = c.exit-next.ensures.exit ∙ ap (λ (h : CallResult). exit h.call.state) (came_is c.self.view_is) in
    record { keeps = subst KeepsAll (sym e) (exit_keeps h.call.state (idle_may_call h c.requires.idle old c.requires.not_null)) }
