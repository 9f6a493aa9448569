use Rattle.std.proofs.Common.{◌≡◌, None, ap, sym, subst}
use Rattle.kernel.proofs.Kept.{kept_idle}
use Rattle.kernel.proofs.kernel.Kernel.new.Goals as goal
use Rattle.kernel.specs.Kernels.{kernel_result}
use Rattle.kernel_state.specs.Results.{idle}
use Rattle.part_laws.specs.Preserve.{KeepsAll}
use Rattle.xinu_model.specs.Machine.{CallState, Silent}

pub invariant_of-result : goal.invariant_of-result
invariant_of-result c =
    let k = c.in_ok-state.state in
    let e : kernel_result (record { state = k; answer = None }) ≡ idle k.call.state
    = ap (λ (d : CallState). record { call = d; answer = Silent }) c.in_ok-state.ensures.booted.1.is in
    record { keeps = subst KeepsAll (sym e) (kept_idle k.call.state c.in_ok-state.ensures.sound) }
