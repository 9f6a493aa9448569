use Rattle.scheduling_laws.proofs.Resched.{highest_resched}
use Rattle.scheduling_laws.proofs.policy.rescheds_run_the_highest.Goals as goal

pub returns : goal.returns
returns c = highest_resched
