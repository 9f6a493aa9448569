use Rattle.bounded_waits.proofs.Comings.{files_answered}
use Rattle.bounded_waits.proofs.Runs.{run_tells}
use Rattle.bounded_waits.proofs.files.calls_on_files_take_effect.Goals as goal

pub returns-clause-told : goal.returns-clause-told
returns-clause-told c = run_tells

pub returns-clause-answered : goal.returns-clause-answered
returns-clause-answered c = files_answered
