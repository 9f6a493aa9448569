-- The clocks of processes, the entries and what is told are the same.
use Rattle.race_detector.proofs.Whole.{kept_detects, kept_within}
use Rattle.race_detector.proofs.moments.keeping_changes_nothing.Goals as goal

pub returns : goal.returns
returns c = record { before = kept_detects; within = kept_within }
