use Rattle.scheduling_laws.proofs.Eligible.{none_above}
use Rattle.scheduling_laws.proofs.policy.no_ready_process_is_above.Goals as goal

pub returns : goal.returns
returns c = none_above
