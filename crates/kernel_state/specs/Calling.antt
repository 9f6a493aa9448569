-- What holds when a call of the current process begins or goes on.
use Rattle.kernel_state.specs.Results.{IsStart}
use Rattle.part_laws.specs.Preserve.{MayCallAny}
use Rattle.xinu_model.specs.Machine.{CallState}

-- Nothing was done yet in this event, the current process isn't the null process, and the state is sound.
pub record IsCalling (d : CallState) : Type 0 where
  pub starts : IsStart d
  pub may : MayCallAny d.state
