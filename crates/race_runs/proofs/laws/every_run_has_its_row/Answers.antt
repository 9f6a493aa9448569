use Rattle.race_runs.proofs.EveryRun.{has_its_row}
use Rattle.race_runs.proofs.laws.every_run_has_its_row.Goals as goal

pub returns : goal.returns
returns c = has_its_row
