use Rattle.std.proofs.Common.{◌≡◌, ◌∙◌, None, ap, sym, subst}
use Rattle.kernel.specs.Kernels.{kernel_result}
use Rattle.part_laws.specs.Preserve.{KeepsAll}
use Rattle.xinu_model.specs.Console.Signals.{receiving}
use Rattle.xinu_model.specs.Machine.{CallResult}
use Rattle.kernel.proofs.Kept.{idle_sound}
use Rattle.xinu_laws.proofs.Preserve.Events.{receiving_keeps}
use Rattle.kernel.proofs.Values.{came_is}
use Rattle.kernel.proofs.kernel.Kernel.on_type.Goals as goal

pub invariant_of-self : goal.invariant_of-self
invariant_of-self c =
    let h = c.args.self.now.came in
    let old : KeepsAll h = subst KeepsAll (came_is c.self.view_is) c.self.invariant.keeps in
    let e : kernel_result (record { state = c.on_type.new.k; answer = None }) ≡ receiving c.args.b h.call.state
    = c.on_type.ensures.received ∙ ap (λ (h : CallResult). receiving c.args.b h.call.state) (came_is c.self.view_is) in
    record { keeps = subst KeepsAll (sym e) (receiving_keeps c.args.b h.call.state (idle_sound h c.requires.idle old)) }
