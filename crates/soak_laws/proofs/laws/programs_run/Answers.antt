use Rattle.soak_laws.proofs.Programs.{programs_run}
use Rattle.soak_laws.proofs.laws.programs_run.Goals as goal

pub returns : goal.returns
returns c = programs_run
