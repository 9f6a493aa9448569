-- The parts of what contracts see of the kernel.
use Rattle.std.proofs.Common.{◌≡◌, ap}
use Rattle.kernel.specs.Values.{KernelValue}

-- equal values came to the same
pub came_is : {u v : KernelValue} → u ≡ v → u.came ≡ v.came
came_is e = ap (λ (v : KernelValue). v.came) e
