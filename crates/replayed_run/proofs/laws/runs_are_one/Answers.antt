use Rattle.replayed_run.proofs.OneRun.{one-over, one-run}
use Rattle.replayed_run.proofs.laws.runs_are_one.Goals as goal

pub returns : goal.returns
returns c = record { state = one-run; over = one-over }
