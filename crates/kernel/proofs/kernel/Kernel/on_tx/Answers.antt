use Rattle.std.proofs.Common.{◌≡◌, ◌∙◌, None, refl, ap, sym, subst}
use Rattle.io_calls.specs.Consoles.{after_sending}
use Rattle.kernel.specs.Kernels.{kernel_result}
use Rattle.part_laws.specs.Preserve.{KeepsAll}
use Rattle.xinu_model.specs.Console.Taking.{console_of}
use Rattle.xinu_model.specs.Console.Transmitting.{transmitted}
use Rattle.xinu_model.specs.Machine.{CallResult, Silent, Xinu}
use Rattle.kernel.proofs.Kept.{after_sending_keeps, idle_sound}
use Rattle.kernel.proofs.Values.{came_is}
use Rattle.kernel.proofs.kernel.Kernel.on_tx.Goals as goal

pub invariant_of-self : goal.invariant_of-self
invariant_of-self c =
    let h = c.args.self.now.came in
    let old : KeepsAll h = subst KeepsAll (came_is c.self.view_is) c.self.invariant.keeps in
    let after : Xinu → CallResult = λ s. record { call = after_sending (transmitted (console_of s)) s; answer = Silent } in
    let e : kernel_result (record { state = c.on_tx-byte.new.k; answer = None }) ≡ after h.call.state
    = ap (λ d. record { call = d; answer = Silent }) c.on_tx-byte.ensures.sent ∙ ap (λ (h : CallResult). after h.call.state) (came_is c.self.view_is) in
    record { keeps = subst KeepsAll (sym e) (after_sending_keeps (transmitted (console_of h.call.state)) h.call.state refl (idle_sound h c.requires.idle old)) }
