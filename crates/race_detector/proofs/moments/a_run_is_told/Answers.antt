-- No access is made later.
use Rattle.race_detector.proofs.Passing.{run_told}
use Rattle.race_detector.proofs.moments.a_run_is_told.Goals as goal

pub returns : goal.returns
returns c = run_told
