-- The process is among all waiters if it is among those from the next one on.
use Rattle.std.proofs.Common.{◌≡◌, ◌<◌, length}
use Rattle.std.specs.Prelude.{IfSome}
use Rattle.process_waits.specs.Waiting.{is_among}
use Rattle.kernel_tables.specs.Walks.{numbers_from}
use Rattle.xinu_model.specs.Sound.Tables.{count_in}
use Rattle.xinu_model.specs.Tables.{semaphore_at}
use Rattle.process_waits.proofs.waiting.waits_on.Given as goal

abbrev pub invariant-loop-next : goal.invariant-loop-next
invariant-loop-next l =
    let waiters = (semaphore_at l.tables l.sem).waiters in
    (is_among l.p waiters ≡ is_among l.p (numbers_from l.next waiters)) × IfSome l.next (λ q. 0 < count_in q waiters)

abbrev pub decreases-loop-next : goal.decreases-loop-next
decreases-loop-next l = length (numbers_from l.next (semaphore_at l.tables l.sem).waiters)
