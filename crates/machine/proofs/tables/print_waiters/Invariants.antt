-- The waiters up to the next one were printed.
use Rattle.std.proofs.Common.{◌<◌, length}
use Rattle.std.specs.Prelude.{IfSome}
use Rattle.kernel_tables.specs.Walks.{numbers_from}
use Rattle.xinu_base.specs.declared.lines.TranscriptLine.TheVariants.{Waiter}
use Rattle.xinu_model.specs.Sound.Tables.{count_in}
use Rattle.xinu_model.specs.Tables.{semaphore_at}
use Rattle.machine.proofs.Walks.{PrintedUpTo}
use Rattle.machine.proofs.tables.print_waiters.Given as goal

abbrev pub invariant-loop-next : goal.invariant-loop-next
invariant-loop-next g l =
    let waiters = (semaphore_at l.tables l.sem).waiters in
    PrintedUpTo (Waiter l.sem) waiters (numbers_from l.next waiters) l.initial.out l.out (g.H.Host.view l.initial.host) (g.H.Host.view l.host)
    × IfSome l.next (λ p. 0 < count_in p waiters)

abbrev pub decreases-loop-next : goal.decreases-loop-next
decreases-loop-next g l = length (numbers_from l.next (semaphore_at l.tables l.sem).waiters)
