-- The whole moment.
use Rattle.race_detector.proofs.Whole.{begun}
use Rattle.race_detector.proofs.detector.Detector.begin.Goals as goal

pub returns-clause-begun : goal.returns-clause-begun
returns-clause-begun c =
    begun c.args.self.now c.learn_all.new.self c.act_all.new.self c.args.edges.now c.args.acts.now c.learn_all.ensures.learnt
    c.learn_all.ensures.entries c.learn_all.ensures.told c.in_ok-act_all.ensures.reached c.act_all.ensures.clocks
