use Rattle.scheduling_laws.proofs.Rounds.{round_robin}
use Rattle.scheduling_laws.proofs.round_robin.turns_come_nearer.Goals as goal

pub returns : goal.returns
returns c = round_robin
