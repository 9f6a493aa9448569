use Rattle.std.proofs.Common.{◌≡◌, ◌∙◌, suc, ℤ, pos, ◌+ℤ◌, int_lt, true, false, Bool, cond, List, length, take, sym, ap, refl, arith}
use Rattle.queue_table.specs.Lists.{Entry, list_at, rest_of}
use Rattle.queue_table.specs.Table.{lists}
use Rattle.queue_table.proofs.Laws.{first_is, first_none}
use Rattle.xinu_model.specs.Process.Scheduling.{ready_all}
use Rattle.xinu_model.specs.Semaphores.Counts.{count_of, most_tokens, with_tokens}
use Rattle.xinu_model.specs.Tables.{Semaphore, semaphore_at}
use Rattle.process_core.specs.Tables.{numbers, tables_of}
use Rattle.semaphores.specs.Counts.{beside, entry_at, with_count}
use Rattle.semaphores.specs.Signals.{answer_to, signal_answer}
use Rattle.semaphores.specs.declared.waiting.Signalled.TheVariants.{Full}
use Rattle.semaphores.proofs.Counting.{count_at, counts_changed, more, recounted, tokens_at, unmarked, used_count, waiters_at}
use Rattle.semaphores.proofs.Releasing.{length-rest}
use Rattle.semaphores.proofs.sems.Sems.signal.Goals as goal

-- what comes of a signal, by the test of the count and by the list
answered : (x : Semaphore) (b : Bool) (z : ℤ) (l : List Entry) → count_of x ≡ z → x.waiters ≡ numbers l → int_lt z most_tokens ≡ b
    → (cond b (answer_to (numbers l)) Full) ≡ signal_answer x
answered x b z l e w h =
    ap (λ b. cond b (answer_to (numbers l)) Full) (sym h)
    ∙ ap (λ z. cond (int_lt z most_tokens) (answer_to (numbers l)) Full) (sym e)
    ∙ ap (λ ws. cond (int_lt (count_of x) most_tokens) (answer_to ws) Full) (sym w)

pub returns-then-not-is_below-clause-answer : goal.returns-then-not-is_below-clause-answer
returns-then-not-is_below-clause-answer c m ticks =
    let ls = lists c.args.lists.now in
    let k = c.args.self.now in
    let b = c.is_below.ensures.within in
    answered (semaphore_at (tables_of ls c.args.procs.now (beside k m ticks)) c.args.sem) false (entry_at k.entries c.args.sem).count
    (list_at ls c.args.sem)
    (count_at ls c.args.procs.now k c.args.sem m ticks c.requires.counts b)
    (waiters_at ls c.args.procs.now k c.args.sem m ticks c.requires.counts.size b)
    (sym c.is_below.ensures.below ∙ c.if-not-is_below.true)

pub returns-in-Some-clause-answer : goal.returns-in-Some-clause-answer
returns-in-Some-clause-answer c m ticks =
    let ls = lists c.args.lists.now in
    let k = c.args.self.now in
    let b = c.is_below.ensures.within in
    let f = first_is (list_at ls c.args.sem) c.in-Some.p c.in-Some.ensures.first in
    ap (λ l. answer_to (numbers l)) (sym f.1)
    ∙ answered (semaphore_at (tables_of ls c.args.procs.now (beside k m ticks)) c.args.sem) true (entry_at k.entries c.args.sem).count
    (list_at ls c.args.sem)
    (count_at ls c.args.procs.now k c.args.sem m ticks c.requires.counts b)
    (waiters_at ls c.args.procs.now k c.args.sem m ticks c.requires.counts.size b)
    (sym c.is_below.ensures.below ∙ c.if-not-is_below.false)

pub returns-in-Some-clause-signalled : goal.returns-in-Some-clause-signalled
returns-in-Some-clause-signalled c m ticks =
    let ls = lists c.args.lists.now in
    let s = c.args.procs.now in
    let k = c.args.self.now in
    let z = (entry_at k.entries c.args.sem).count in
    let b = c.is_below.ensures.within in
    let f = first_is (list_at ls c.args.sem) c.in-Some.p c.in-Some.ensures.first in
    let n : length (list_at ls c.args.sem) ≡ suc (length (rest_of (list_at ls c.args.sem))) = ap length f.1 in
    let w = c.requires.counts.waiting c.args.sem b in
    let y = (more z (z +ℤ pos 1) 1 refl).0 in
    c.release.ensures.readied (beside c.raise.new.self m ticks)
    ∙ ap (λ u. ready_all (take 1 (numbers (list_at ls c.args.sem))) (tables_of ls s (beside u m ticks))) c.raise.ensures.sems
    ∙ ap (λ u. ready_all (take 1 (numbers (list_at ls c.args.sem))) (tables_of ls s u))
    (unmarked k c.args.sem (z +ℤ pos 1) m ticks (omega (arith, y, n, w)))
    ∙ ap (λ l. ready_all (take 1 (numbers l)) (tables_of ls s (beside k m ticks))) f.1

pub returns-in-None-clause-answer : goal.returns-in-None-clause-answer
returns-in-None-clause-answer c m ticks =
    let ls = lists c.args.lists.now in
    let k = c.args.self.now in
    let b = c.is_below.ensures.within in
    ap (λ l. answer_to (numbers l)) (sym (first_none (list_at ls c.args.sem) c.in-None.ensures.first))
    ∙ answered (semaphore_at (tables_of ls c.args.procs.now (beside k m ticks)) c.args.sem) true (entry_at k.entries c.args.sem).count
    (list_at ls c.args.sem)
    (count_at ls c.args.procs.now k c.args.sem m ticks c.requires.counts b)
    (waiters_at ls c.args.procs.now k c.args.sem m ticks c.requires.counts.size b)
    (sym c.is_below.ensures.below ∙ c.if-not-is_below.false)

pub returns-in-None-clause-signalled : goal.returns-in-None-clause-signalled
returns-in-None-clause-signalled c m ticks =
    let ls = lists c.args.lists.now in
    let s = c.args.procs.now in
    let k = c.args.self.now in
    let z = (entry_at k.entries c.args.sem).count in
    let t = tables_of ls s (beside k m ticks) in
    let b = c.is_below.ensures.within in
    let none = first_none (list_at ls c.args.sem) c.in-None.ensures.first in
    let n : length (list_at ls c.args.sem) ≡ 0 = ap length none in
    let w = c.requires.counts.waiting c.args.sem b in
    let y = (more z (z +ℤ pos 1) 1 refl).0 in
    let o = tokens_at ls s k c.args.sem m ticks c.requires.counts.size b in
    c.release.ensures.readied (beside c.raise.new.self m ticks)
    ∙ ap (λ u. ready_all (take 1 (numbers (list_at ls c.args.sem))) (tables_of ls s (beside u m ticks))) c.raise.ensures.sems
    ∙ ap (λ l. ready_all (take 1 (numbers l)) (tables_of ls s (beside (with_count c.args.sem (z +ℤ pos 1) k) m ticks))) none
    ∙ recounted ls s k c.args.sem (z +ℤ pos 1) m ticks c.requires.counts.size b
    ∙ ap (λ n. with_tokens c.args.sem n t) (omega (arith, y, n, w, o))

pub returns-in-Some-clause-counts : goal.returns-in-Some-clause-counts
returns-in-Some-clause-counts c =
    let ls = lists c.args.lists.now in
    let k = c.args.self.now in
    let z = (entry_at k.entries c.args.sem).count in
    let b = c.is_below.ensures.within in
    let y = (more z (z +ℤ pos 1) 1 refl).1 in
    let w = c.requires.counts.waiting c.args.sem b in
    let d = ap length c.release.ensures.rest ∙ length-rest (list_at ls c.args.sem) in
    rw c.raise.ensures.sems
    (counts_changed ls (lists c.release.new.lists) k.entries c.args.sem
    (record (entry_at k.entries c.args.sem) { count = z +ℤ pos 1 }) c.requires.counts b
    (omega (arith, d, y, w)) (used_count (entry_at k.entries c.args.sem).owner _ c.requires.used)
    (λ q lq ne. c.release.ensures.others q ne (λ x. omega (arith, x, lq))))

pub returns-in-None-clause-counts : goal.returns-in-None-clause-counts
returns-in-None-clause-counts c =
    let ls = lists c.args.lists.now in
    let k = c.args.self.now in
    let z = (entry_at k.entries c.args.sem).count in
    let b = c.is_below.ensures.within in
    let y = (more z (z +ℤ pos 1) 1 refl).1 in
    let w = c.requires.counts.waiting c.args.sem b in
    let d = ap length c.release.ensures.rest ∙ length-rest (list_at ls c.args.sem) in
    rw c.raise.ensures.sems
    (counts_changed ls (lists c.release.new.lists) k.entries c.args.sem
    (record (entry_at k.entries c.args.sem) { count = z +ℤ pos 1 }) c.requires.counts b
    (omega (arith, d, y, w)) (used_count (entry_at k.entries c.args.sem).owner _ c.requires.used)
    (λ q lq ne. c.release.ensures.others q ne (λ x. omega (arith, x, lq))))
