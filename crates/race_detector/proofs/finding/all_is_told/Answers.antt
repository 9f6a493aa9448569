-- No access is made later.
use Rattle.race_detector.proofs.Pairs.{all_found}
use Rattle.race_detector.proofs.finding.all_is_told.Goals as goal

pub returns : goal.returns
returns c = all_found
