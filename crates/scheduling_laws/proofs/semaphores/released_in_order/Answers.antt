use Rattle.scheduling_laws.proofs.Released.{ahead_semdelete, ahead_semreset, ahead_signaln}
use Rattle.scheduling_laws.proofs.semaphores.released_in_order.Goals as goal

pub returns-clause-signaln : goal.returns-clause-signaln
returns-clause-signaln c = ahead_signaln

pub returns-clause-semreset : goal.returns-clause-semreset
returns-clause-semreset c = ahead_semreset

pub returns-clause-semdelete : goal.returns-clause-semdelete
returns-clause-semdelete c = ahead_semdelete
