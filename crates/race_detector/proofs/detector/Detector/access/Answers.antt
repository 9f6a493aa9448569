-- One deed more.
use Rattle.race_detector.specs.declared.detector.Detector.{Detector}
use Rattle.race_detector.proofs.Reaching.{access_reached}
use Rattle.race_detector.proofs.detector.Detector.access.Goals as goal

pub returns-clause-reached : goal.returns-clause-reached
returns-clause-reached c =
    let new : Detector = record { clocks = c.args.self.now.clocks; entries = c.enter.new.self; told = c.tell.new.told } in
    access_reached c.args.self.now new c.args.byte c.args.access c.in_ok-tell.ensures.told c.in_ok-tell.ensures.only c.in_ok-enter.ensures.entered
