use Rattle.event_laws.proofs.Rises.PortEvents.{keyed_once, stepped_once, ticked_once, transmits_once}
use Rattle.event_laws.proofs.counters.ports_are_renewed_once.Goals as goal

pub returns : goal.returns
returns c = record { step = stepped_once; tick = ticked_once; key = keyed_once; sent = transmits_once }
