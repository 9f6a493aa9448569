use Rattle.preemptions.proofs.Members.{is_among, is_placement}
use Rattle.preemptions.proofs.laws.placements_are_all.Goals as goal

pub returns : goal.returns
returns c = record { to = is_among; from = is_placement }
