use Rattle.xinu_base.specs.declared.processes.State.TheVariants.{Sleeping}
use Rattle.scheduling_laws.proofs.Waking.{sleeps_no_longer}
use Rattle.scheduling_laws.proofs.sleepers.sleepers_wake_later.Goals as goal

pub returns : goal.returns
returns c = sleeps_no_longer Sleeping
