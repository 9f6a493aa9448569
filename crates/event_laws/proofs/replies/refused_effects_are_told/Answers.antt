use Rattle.event_laws.proofs.Reply.RefusedEvents.{refused_effects}
use Rattle.event_laws.proofs.replies.refused_effects_are_told.Goals as goal

pub returns : goal.returns
returns c = refused_effects
