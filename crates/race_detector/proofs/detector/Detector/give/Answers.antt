-- One deed more.
use Rattle.std.proofs.Common.{refl}
use Rattle.race_detector.specs.declared.detector.Detector.{Detector}
use Rattle.race_detector.proofs.Reaching.{gift_reached}
use Rattle.race_detector.proofs.detector.Detector.give.Goals as goal

pub returns-clause-reached : goal.returns-clause-reached
returns-clause-reached c =
    let new : Detector = record { clocks = c.args.self.now.clocks; entries = c.give.new.self; told = c.args.self.now.told } in
    gift_reached c.args.self.now new c.args.first c.args.count refl c.give.ensures.given
