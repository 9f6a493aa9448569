-- The clock of its part has what it knows.
use Rattle.race_detector.proofs.Learnt.{learnt_known}
use Rattle.race_detector.proofs.laws.what_is_learnt_is_known.Goals as goal

pub returns : goal.returns
returns c = learnt_known
