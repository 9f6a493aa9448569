use Rattle.std.proofs.Common.{◌∙◌, ap}
use Rattle.kernel_tables.specs.Walks.{numbers_from}
use Rattle.xinu_base.specs.declared.lines.TranscriptLine.TheVariants.{Waiter}
use Rattle.xinu_model.specs.Tables.{semaphore_at}
use Rattle.machine.proofs.Walks.{printed_next, printed_start}
use Rattle.machine.proofs.tables.print_waiters.Goals as goal

pub loop-next-init : goal.loop-next-init
loop-next-init g c =
    let sem = c.args.sem in
    let waiters = (semaphore_at c.args.tables.now sem).waiters in
    (printed_start (Waiter sem) waiters (numbers_from c.first_waiter-next.result waiters) _ _ c.first_waiter-next.ensures.all, c.first_waiter-next.ensures.waits)

pub loop-next-preserved : goal.loop-next-preserved
loop-next-preserved g c =
    let sem = c.args.sem in
    let p = c.in-Some.p in
    let waiters = (semaphore_at c.args.tables.now sem).waiters in
    let e = ap (λ o. numbers_from o waiters) c.in-Some.is ∙ c.waiter_after-next.ensures.next in (
      printed_next (Waiter sem) waiters (numbers_from c.loop-next.next waiters) (numbers_from c.waiter_after-next.result waiters) p _ _ _ _ _ _ e c.loop-next.invariant.0 c.print_line.ensures.prints,
      c.waiter_after-next.ensures.waits,
    )
