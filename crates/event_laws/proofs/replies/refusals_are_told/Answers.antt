use Rattle.event_laws.proofs.Reply.Values.{refused_or_told}
use Rattle.event_laws.proofs.replies.refusals_are_told.Goals as goal

pub returns : goal.returns
returns c = refused_or_told
