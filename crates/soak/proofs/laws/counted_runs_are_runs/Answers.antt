use Rattle.soak.proofs.Runs.{is_run}
use Rattle.soak.proofs.laws.counted_runs_are_runs.Goals as goal

pub returns : goal.returns
returns c = is_run
