-- The waiters up to the next one are refused.
use Rattle.std.proofs.Common.{◌≡◌, ◌<◌, ◌++◌, length}
use Rattle.std.specs.Prelude.{IfSome}
use Rattle.kernel_tables.specs.Walks.{numbers_from}
use Rattle.refusal_reasons.specs.declared.reasons.Reason.TheVariants.{SemaphoreDeleted}
use Rattle.refused_calls.specs.Refusals.{all_refused}
use Rattle.xinu_model.specs.Sound.Tables.{count_in}
use Rattle.xinu_model.specs.Tables.{semaphore_at}
use Rattle.refused_calls.proofs.waiters.push_waiters_of.Given as goal

abbrev pub invariant-loop-next : goal.invariant-loop-next
invariant-loop-next l =
    let s = l.k.call.state in
    let waiters = (semaphore_at s.tables l.sem).waiters in
    (l.calls.items ++ all_refused l.taken s SemaphoreDeleted (numbers_from l.next waiters) ≡ l.initial.calls.items ++ all_refused l.taken s SemaphoreDeleted waiters)
    × IfSome l.next (λ p. 0 < count_in p waiters)

abbrev pub decreases-loop-next : goal.decreases-loop-next
decreases-loop-next l = length (numbers_from l.next (semaphore_at l.k.call.state.tables l.sem).waiters)
