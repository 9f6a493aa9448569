use Rattle.std.proofs.Common.{◌≡◌, ◌∙◌, ◌-◌, ◌+◌, pos, ◌+ℤ◌, length, take, sym, ap, refl, arith}
use Rattle.std.proofs.lemmas.List.{length-drop}
use Rattle.queue_table.specs.Lists.{list_at}
use Rattle.queue_table.specs.Table.{lists}
use Rattle.xinu_model.specs.Process.Scheduling.{ready_all}
use Rattle.xinu_model.specs.Semaphores.Counts.{with_tokens}
use Rattle.xinu_model.specs.Tables.{semaphore_at}
use Rattle.process_core.specs.Tables.{numbers, tables_of}
use Rattle.semaphores.specs.Counts.{beside, entry_at, tokens_of}
use Rattle.semaphores.proofs.Counting.{counts_changed, length-numbers, more, recounted, tokens_at, used_count, waiters_at}
use Rattle.semaphores.proofs.sems.Sems.signaln.Goals as goal

pub returns-clause-released : goal.returns-clause-released
returns-clause-released c m ticks =
    let ls = lists c.args.lists.now in
    c.release_first-released.ensures.released
    ∙ ap (take c.args.n) (sym (waiters_at ls c.args.procs.now c.args.self.now c.args.sem m ticks c.requires.counts.size c.raise.ensures.within))

pub returns-clause-signalled : goal.returns-clause-signalled
returns-clause-signalled c m ticks =
    let ls = lists c.args.lists.now in
    let s = c.args.procs.now in
    let k = c.args.self.now in
    let sem = c.args.sem in
    let n = c.args.n in
    let z = (entry_at k.entries sem).count in
    let b = c.raise.ensures.within in
    let t = tables_of ls s (beside k m ticks) in
    let x = semaphore_at t sem in
    let ws = numbers (list_at ls sem) in
    let r = c.release_first-released in
    let y = (more z (z +ℤ pos n) n refl).0 in
    let w = c.requires.counts.waiting sem b in
    let len : length x.waiters ≡ length (list_at ls sem)
    = ap length (waiters_at ls s k sem m ticks c.requires.counts.size b) ∙ length-numbers (list_at ls sem) in
    let o = tokens_at ls s k sem m ticks c.requires.counts.size b in
    let e : tokens_of (z +ℤ pos n) ≡ x.tokens + (n - length x.waiters) = omega (arith, y, w, len, o) in
    ap (λ u. tables_of (lists r.new.lists) r.new.procs (beside u m ticks)) c.raise.ensures.sems
    ∙ recounted (lists r.new.lists) r.new.procs k sem (z +ℤ pos n) m ticks c.requires.counts.size b
    ∙ ap (with_tokens sem (tokens_of (z +ℤ pos n))) (r.ensures.readied (beside k m ticks))
    ∙ ap (λ ws. with_tokens sem (tokens_of (z +ℤ pos n)) (ready_all (take n ws) t))
    (sym (waiters_at ls s k sem m ticks c.requires.counts.size b))
    ∙ ap (λ j. with_tokens sem j (ready_all (take n x.waiters) t)) e

pub returns-clause-counts : goal.returns-clause-counts
returns-clause-counts c =
    let ls = lists c.args.lists.now in
    let k = c.args.self.now in
    let sem = c.args.sem in
    let n = c.args.n in
    let z = (entry_at k.entries sem).count in
    let b = c.raise.ensures.within in
    let r = c.release_first-released in
    let y = (more z (z +ℤ pos n) n refl).1 in
    let w = c.requires.counts.waiting sem b in
    let d : length (list_at (lists r.new.lists) sem) ≡ length (list_at ls sem) - n = ap length r.ensures.rest ∙ length-drop n
    (list_at ls sem) in
    rw c.raise.ensures.sems
    (counts_changed ls (lists r.new.lists) k.entries sem (record (entry_at k.entries sem) { count = z +ℤ pos n }) c.requires.counts b
    (omega (arith, d, y, w)) (used_count (entry_at k.entries sem).owner _ c.requires.used)
    (λ q lq ne. r.ensures.others q ne (λ e. omega (arith, e, lq))))
