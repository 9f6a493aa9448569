use Rattle.event_laws.proofs.Ownership.Events.{apart_happens}
use Rattle.event_laws.proofs.owners.events_keep_apart.Goals as goal

pub returns : goal.returns
returns c = apart_happens
