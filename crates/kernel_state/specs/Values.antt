-- What contracts see of the kernel's state.
use Rattle.std.specs.Prelude.{ℕ, List}
use Rattle.xinu_model.specs.Machine.{CallState}

-- The state of the abstract machine inside an event, and the bytes of the disk with files.
pub record KernelValue : Type 0 where
  pub call : CallState
  pub image : List ℕ
