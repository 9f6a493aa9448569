-- What each process knows is known.
use Rattle.race_detector.proofs.Standing.{all_known}
use Rattle.race_detector.proofs.moments.then_its_acts_are_known.Goals as goal

pub returns : goal.returns
returns c = all_known
