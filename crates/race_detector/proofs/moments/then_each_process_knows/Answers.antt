-- What is learnt is known.
use Rattle.race_detector.proofs.Passing.{parts_known}
use Rattle.race_detector.proofs.moments.then_each_process_knows.Goals as goal

pub returns : goal.returns
returns c = λ h m x y learns now. parts_known h m x y learns now
