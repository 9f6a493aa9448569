-- The new pairs are those of the access.
use Rattle.race_detector.proofs.Pairs.{access_found}
use Rattle.race_detector.proofs.finding.accesses_are_told_one_by_one.Goals as goal

pub returns : goal.returns
returns c = access_found
