use Rattle.event_laws.proofs.Reply.RefusedEvents.{refused_events}
use Rattle.event_laws.proofs.replies.refusals_change_nothing.Goals as goal

pub returns : goal.returns
returns c = refused_events
