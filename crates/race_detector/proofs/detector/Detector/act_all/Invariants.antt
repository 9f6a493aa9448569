-- The deeds so far are done.
use Rattle.race_detector.proofs.Acting.{Acting}
use Rattle.race_detector.proofs.detector.Detector.act_all.Given as goal

abbrev pub invariant-loop-act : goal.invariant-loop-act
invariant-loop-act l = Acting l.acts l.act-index l.initial.self l.self
