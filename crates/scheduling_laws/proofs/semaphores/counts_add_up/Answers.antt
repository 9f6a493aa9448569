use Rattle.scheduling_laws.proofs.Stretches.{stretch_counted}
use Rattle.scheduling_laws.proofs.semaphores.counts_add_up.Goals as goal

pub returns : goal.returns
returns c = stretch_counted
