use Rattle.scheduling_laws.proofs.Rounds.{comes_to_run}
use Rattle.scheduling_laws.proofs.round_robin.ready_processes_come_to_run.Goals as goal

pub returns : goal.returns
returns c = comes_to_run
