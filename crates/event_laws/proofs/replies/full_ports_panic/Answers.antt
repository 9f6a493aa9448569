use Rattle.event_laws.proofs.Reply.Panics.{call_panics, continued_panics, event_panics}
use Rattle.event_laws.proofs.replies.full_ports_panic.Goals as goal

pub returns : goal.returns
returns c = record {
  calls = call_panics;
  continued = continued_panics;
  events = event_panics;
}
