use Rattle.xinu_model.proofs.Runs.{some_run}
use Rattle.xinu_model.proofs.laws.runs_happen.Goals as goal

pub returns : goal.returns
returns c = some_run
