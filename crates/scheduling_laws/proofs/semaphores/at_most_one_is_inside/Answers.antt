use Rattle.scheduling_laws.proofs.Exclusion.{one_inside}
use Rattle.scheduling_laws.proofs.semaphores.at_most_one_is_inside.Goals as goal

pub returns : goal.returns
returns c = one_inside
