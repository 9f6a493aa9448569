use Rattle.preemptions.proofs.Members.{all_differ}
use Rattle.preemptions.proofs.laws.placements_differ.Goals as goal

pub returns : goal.returns
returns c = all_differ
