-- At the start.
use Rattle.race_detector.proofs.Reaching.{start}
use Rattle.race_detector.proofs.detector.Detector.new.Goals as goal

pub returns : goal.returns
returns c = record {
  start = start _ c.in_ok-clocks.ensures.nothing c.in_ok-entries.ensures.none c.new-told.ensures.items;
}
