use Rattle.scheduling_laws.proofs.Held.{stuck_stays}
use Rattle.scheduling_laws.proofs.stuck.stuck_is_for_ever.Goals as goal

pub returns : goal.returns
returns c = stuck_stays
