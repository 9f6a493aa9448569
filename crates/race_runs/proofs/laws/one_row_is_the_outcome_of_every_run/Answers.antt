use Rattle.race_runs.proofs.EveryRun.{has_the_outcome}
use Rattle.race_runs.proofs.laws.one_row_is_the_outcome_of_every_run.Goals as goal

pub returns : goal.returns
returns c = has_the_outcome
