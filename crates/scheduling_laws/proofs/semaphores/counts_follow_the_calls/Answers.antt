use Rattle.scheduling_laws.proofs.Counts.{kill_raises, signal_raises, wait_lowers}
use Rattle.scheduling_laws.proofs.semaphores.counts_follow_the_calls.Goals as goal

pub returns-clause-wait : goal.returns-clause-wait
returns-clause-wait c = wait_lowers

pub returns-clause-signal : goal.returns-clause-signal
returns-clause-signal c = signal_raises

pub returns-clause-kill : goal.returns-clause-kill
returns-clause-kill c = kill_raises
