-- The edges so far are learnt.
use Rattle.race_detector.proofs.Many.{Learning}
use Rattle.race_detector.proofs.detector.Detector.learn_all.Given as goal

abbrev pub invariant-loop-edge : goal.invariant-loop-edge
invariant-loop-edge l = Learning l.edges l.edge-index l.initial.self l.self
