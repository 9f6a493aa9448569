use Rattle.scheduling_laws.proofs.Asleep.{falls_asleep, falls_asleep_for, waits_until}
use Rattle.scheduling_laws.proofs.sleepers.callers_fall_asleep.Goals as goal

pub returns-clause-sleepms : goal.returns-clause-sleepms
returns-clause-sleepms c = falls_asleep

pub returns-clause-sleep : goal.returns-clause-sleep
returns-clause-sleep c = falls_asleep_for

pub returns-clause-recvtime : goal.returns-clause-recvtime
returns-clause-recvtime c = waits_until
