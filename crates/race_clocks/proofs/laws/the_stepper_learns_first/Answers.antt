-- The edges to the process that steps, and those to the others.
use Rattle.race_clocks.proofs.Targets.{learnt_after, learnt_first}
use Rattle.race_clocks.proofs.laws.the_stepper_learns_first.Goals as goal

pub returns : goal.returns
returns c = record { first = learnt_first; after = learnt_after }
