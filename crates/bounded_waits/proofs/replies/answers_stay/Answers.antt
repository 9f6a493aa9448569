use Rattle.bounded_waits.proofs.Stays.{answer_stays}
use Rattle.bounded_waits.proofs.replies.answers_stay.Goals as goal

pub returns : goal.returns
returns c = answer_stays
