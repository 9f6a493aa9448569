-- The whole moment.
use Rattle.race_detector.proofs.Whole.{ended}
use Rattle.race_detector.proofs.detector.Detector.end.Goals as goal

pub returns-clause-ended : goal.returns-clause-ended
returns-clause-ended c =
    ended c.args.self.now c.learn_all.new.self c.args.edges.now c.learn_all.ensures.learnt
    c.learn_all.ensures.entries c.learn_all.ensures.told
