use Rattle.scheduling_laws.proofs.Wakes.{receives_on_time}
use Rattle.scheduling_laws.proofs.sleepers.timed_receivers_wake_on_time.Goals as goal

pub returns : goal.returns
returns c = receives_on_time
