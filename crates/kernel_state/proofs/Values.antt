-- The parts of what contracts see of the kernel's state.
use Rattle.std.proofs.Common.{◌≡◌, ap}
use Rattle.kernel_state.specs.Values.{KernelValue}

-- equal values have the same state inside the event
pub call_is : {u v : KernelValue} → u ≡ v → u.call ≡ v.call
call_is e = ap (λ (v : KernelValue). v.call) e
