-- One edge more.
use Rattle.race_detector.specs.declared.detector.Detector.{Detector}
use Rattle.race_detector.proofs.Reaching.{edge_learnt}
use Rattle.race_detector.proofs.detector.Detector.learn.Goals as goal

pub returns-clause-learnt : goal.returns-clause-learnt
returns-clause-learnt c =
    let new : Detector = record { clocks = c.learn.new.self; entries = c.args.self.now.entries; told = c.args.self.now.told } in
    edge_learnt c.args.self.now new c.args.process c.args.name c.learn.ensures.learnt
