use Rattle.bounded_waits.proofs.Returns.{returns_next}
use Rattle.bounded_waits.proofs.replies.answers_are_given.Goals as goal

pub returns : goal.returns
returns c = returns_next
