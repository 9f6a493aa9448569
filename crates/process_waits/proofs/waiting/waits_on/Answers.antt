-- The next waiter is the process, or another one.
use Rattle.std.proofs.Common.{◌≡◌, ◌∙◌, ◌==◌, true, false, ap, sym, arith}
use Rattle.std.proofs.lemmas.Bool.Decides.{nat_tests}
use Rattle.std.proofs.lemmas.Grind.{common_steps}
use Rattle.process_waits.proofs.Searches.{among_here, among_next}
use Rattle.kernel_tables.specs.Walks.{numbers_from}
use Rattle.xinu_model.specs.Tables.{semaphore_at}
use Rattle.process_waits.proofs.waiting.waits_on.Goals as goal

pub returns-then-index : goal.returns-then-index
returns-then-index c =
    let q = c.in-Some.waiter in
    let waiters = (semaphore_at c.args.tables.now c.args.sem).waiters in
    let e = ap (λ o. numbers_from o waiters) c.in-Some.is ∙ c.waiter_after-next.ensures.next in
    let same : (q == c.args.p) ≡ true = grind (arith, common_steps, nat_tests) in
    record { waits = sym (among_here c.args.p q waiters (numbers_from c.loop-next.next waiters) (numbers_from c.waiter_after-next.result waiters) e same c.loop-next.invariant.0) }

pub loop-next-preserved : goal.loop-next-preserved
loop-next-preserved c =
    let q = c.in-Some.waiter in
    let waiters = (semaphore_at c.args.tables.now c.args.sem).waiters in
    let e = ap (λ o. numbers_from o waiters) c.in-Some.is ∙ c.waiter_after-next.ensures.next in
    let other : (q == c.args.p) ≡ false = grind (arith, common_steps, nat_tests) in (
      among_next c.args.p q waiters (numbers_from c.loop-next.next waiters) (numbers_from c.waiter_after-next.result waiters) e other c.loop-next.invariant.0,
      c.waiter_after-next.ensures.waits,
    )
