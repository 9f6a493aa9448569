use Rattle.scheduling_laws.proofs.Fifo.{fair_happens, fair_release}
use Rattle.scheduling_laws.proofs.semaphores.waiters_go_on_in_order.Goals as goal

pub returns-clause-order : goal.returns-clause-order
returns-clause-order c = fair_happens

pub returns-clause-release : goal.returns-clause-release
returns-clause-release c = fair_release
