-- What contracts see of the kernel.
use Rattle.std.specs.Prelude.{ℕ, List}
use Rattle.xinu_model.specs.Machine.{CallResult}

-- The state of the abstract machine inside an event and how the event's call goes, and the bytes of the disk with files.
pub record KernelValue : Type 0 where
  pub came : CallResult
  pub image : List ℕ
