-- One step, if any was taken.
use Rattle.watched_run.proofs.Taking.{one-step}
use Rattle.watched_run.proofs.watched.WatchedRun.take_step.Goals as goal

pub returns-clause-step : goal.returns-clause-step
returns-clause-step c = one-step c.take_steps.result c.args.self.now.replay c.take_steps.new.self c.take_steps.ensures.most c.take_steps.ensures.steps
