use Rattle.event_laws.proofs.Reply.Refusing.{continued_refusals}
use Rattle.event_laws.proofs.replies.continued_refusals_change_nothing.Goals as goal

pub returns : goal.returns
returns c = continued_refusals
