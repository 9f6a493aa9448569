use Rattle.preemptions.proofs.MomentLaws.{come_there}
use Rattle.preemptions.proofs.laws.preemptions_come_at_their_moments.Goals as goal

pub returns : goal.returns
returns c = come_there
