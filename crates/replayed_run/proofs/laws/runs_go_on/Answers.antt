use Rattle.replayed_run.proofs.OneRun.{over-later}
use Rattle.replayed_run.proofs.laws.runs_go_on.Goals as goal

pub returns : goal.returns
returns c = over-later
