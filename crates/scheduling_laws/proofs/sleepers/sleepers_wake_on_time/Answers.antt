use Rattle.scheduling_laws.proofs.Wakes.{wakes_on_time}
use Rattle.scheduling_laws.proofs.sleepers.sleepers_wake_on_time.Goals as goal

pub returns : goal.returns
returns c = wakes_on_time
