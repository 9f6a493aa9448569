-- The clocks and the entries after it.
use Rattle.race_detector.proofs.Passing.{moment_done, no_other_learnt}
use Rattle.race_detector.proofs.moments.a_moment_goes.Goals as goal

pub returns : goal.returns
returns c = record { begin = no_other_learnt; end = moment_done }
