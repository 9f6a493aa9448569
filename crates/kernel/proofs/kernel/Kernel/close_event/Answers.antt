use Rattle.std.proofs.Common.{◌≡◌, None, [], ap, sym, subst}
use Rattle.kernel.specs.Kernels.{kernel_result}
use Rattle.kernel_state.specs.Results.{idle}
use Rattle.kernel.proofs.Kept.{closed_kept}
use Rattle.xinu_laws.proofs.Preserve.Events.{state_end_of_event}
use Rattle.part_laws.specs.Preserve.{KeepsAll}
use Rattle.xinu_model.specs.Machine.{CallState, end_of_event, Silent}
use Rattle.xinu_model.specs.Sound.State.{IsSound}
use Rattle.kernel.proofs.kernel.Kernel.close_event.Goals as goal

pub invariant_of-self : goal.invariant_of-self
invariant_of-self c =
    let k = c.self.inside in
    let e : kernel_result (record { state = c.close.new.self; answer = None }) ≡ idle (end_of_event 0 [] (kernel_result k)).state
    = ap (λ (d : CallState). record { call = d; answer = Silent }) c.close.ensures.closed in
    record { keeps = subst KeepsAll (sym e) (closed_kept (kernel_result k) c.self.invariant.keeps) }

pub returns-clause-sound : goal.returns-clause-sound
returns-clause-sound c =
    let h = kernel_result c.self.inside in
    subst IsSound (sym (ap (λ (d : CallState). d.state) c.close.ensures.closed)) (state_end_of_event 0 [] h c.self.invariant.keeps)
