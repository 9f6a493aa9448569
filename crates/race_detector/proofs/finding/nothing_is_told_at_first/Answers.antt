-- The empty list.
use Rattle.race_detector.proofs.Pairs.{nothing_found}
use Rattle.race_detector.proofs.finding.nothing_is_told_at_first.Goals as goal

pub returns : goal.returns
returns c = nothing_found
