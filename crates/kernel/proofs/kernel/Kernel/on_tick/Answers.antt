use Rattle.std.proofs.Common.{◌≡◌, ◌∙◌, None, ap, sym, subst}
use Rattle.kernel.specs.Kernels.{kernel_result}
use Rattle.part_laws.specs.Preserve.{KeepsAll, ticking}
use Rattle.xinu_model.specs.Machine.{CallResult}
use Rattle.kernel.proofs.Kept.{idle_sound}
use Rattle.xinu_laws.proofs.Preserve.Events.{ticking_keeps}
use Rattle.kernel.proofs.Values.{came_is}
use Rattle.kernel.proofs.kernel.Kernel.on_tick.Goals as goal

pub invariant_of-self : goal.invariant_of-self
invariant_of-self c =
    let h = c.args.self.now.came in
    let old : KeepsAll h = subst KeepsAll (came_is c.self.view_is) c.self.invariant.keeps in
    let e : kernel_result (record { state = c.tick.new.k; answer = None }) ≡ ticking h.call.state = c.tick.ensures.ticks ∙ ap (λ (h : CallResult). ticking h.call.state) (came_is c.self.view_is) in
    record { keeps = subst KeepsAll (sym e) (ticking_keeps h.call.state (idle_sound h c.requires.idle old)) }

pub returns-clause-ticks : goal.returns-clause-ticks
returns-clause-ticks c = c.tick.ensures.ticks ∙ ap (λ (h : CallResult). ticking h.call.state) (came_is c.self.view_is)
