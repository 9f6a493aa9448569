-- What a kernel stands for, and what holds of it at each moment.
use Rattle.kernel.specs.declared.kernel.Kernel.TheInside.{Inside}
use Rattle.kernel.specs.Values.{KernelValue}
use Rattle.kernel_state.specs.Results.{answer_so_far}
use Rattle.part_laws.specs.Preserve.{KeepsAll}
use Rattle.xinu_model.specs.Machine.{CallResult}

-- the state inside an event, and how its call goes
abbrev pub kernel_result : Inside → CallResult
kernel_result k = record { call = k.state.call; answer = answer_so_far k.answer }

-- that and the bytes of the disk with files
abbrev pub kernel_value : Inside → KernelValue
kernel_value k = record { came = kernel_result k; image = k.state.image }

-- what each call keeps holds
pub record IsKernel (k : Inside) : Type 0 where
  pub keeps : KeepsAll (kernel_result k)
