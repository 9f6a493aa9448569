use Rattle.scheduling_laws.proofs.Comings.{turn_comes}
use Rattle.scheduling_laws.proofs.round_robin.turns_come.Goals as goal

pub returns : goal.returns
returns c = turn_comes
