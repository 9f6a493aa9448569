use Rattle.event_laws.proofs.Ownership.Runs.{apart_run}
use Rattle.xinu_laws.proofs.Preserve.Events.{sound_happens}
use Rattle.event_laws.proofs.owners.runs_keep_apart.Goals as goal

pub returns : goal.returns
returns c = apart_run sound_happens
