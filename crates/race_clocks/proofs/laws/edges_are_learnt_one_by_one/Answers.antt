-- The next edge is learnt.
use Rattle.race_clocks.proofs.Learning.{learnt_one}
use Rattle.race_clocks.proofs.laws.edges_are_learnt_one_by_one.Goals as goal

pub returns : goal.returns
returns c = learnt_one
