-- The clocks and the entries of before.
use Rattle.race_detector.proofs.Passing.{no_deed_done, no_edge_learnt}
use Rattle.race_detector.proofs.moments.a_moment_comes.Goals as goal

pub returns : goal.returns
returns c = record { edges = no_edge_learnt; deeds = no_deed_done }
