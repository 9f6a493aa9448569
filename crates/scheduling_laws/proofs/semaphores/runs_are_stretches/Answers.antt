use Rattle.scheduling_laws.proofs.Stretches.{runs_lead}
use Rattle.scheduling_laws.proofs.semaphores.runs_are_stretches.Goals as goal

pub returns : goal.returns
returns c = runs_lead
