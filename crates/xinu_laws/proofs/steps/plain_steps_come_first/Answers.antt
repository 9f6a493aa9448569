use Rattle.xinu_laws.proofs.PlainSteps.{run_after}
use Rattle.xinu_laws.proofs.steps.plain_steps_come_first.Goals as goal

pub returns : goal.returns
returns c = run_after
