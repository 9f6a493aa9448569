-- A process that waits on a semaphore is taken out of its list.
use Rattle.std.proofs.Common.{◌≡◌, ◌≢◌, ◌∙◌, ℕ, suc, ◌+◌, ◌<◌, false, Option, Some, None, List, ◌∷◌, ◌++◌, length, refl, sym, ap, arith, int_lt, pos, ◌+ℤ◌, ◌<ℤ◌, ℤ}
use Rattle.std.specs.Option.{IsSomeAnd}
use Rattle.std.proofs.lemmas.Int.{ints}
use Rattle.std.proofs.lemmas.List.{length-append}
use Rattle.xinu_base.specs.declared.processes.Process.{Process}
use Rattle.queue_table.specs.declared.table.QueueTable.{QueueTable}
use Rattle.queue_table.specs.Table.{lists}
use Rattle.queue_table.specs.Lists.{Entry, all_without, list_at, place, without}
use Rattle.queue_table.proofs.Laws.{below_P, disjoint, list_at_without, place-some}
use Rattle.queue_table.proofs.Places.{without-absent, without-split}
use Rattle.queue_table.proofs.Tables.{front_of, placed, rest_of_placed}
use Rattle.xinu_model.specs.Semaphores.Counts.{most_tokens}
use Rattle.process_core.specs.Fits.{Fits}
use Rattle.process_core.proofs.Steps.{fits_left}
use Rattle.semaphores.specs.Counts.{Counts, SemaphoreTable, entry_at, waiting_of, with_count}
use Rattle.semaphores.specs.declared.sems.SemaphoreEntry.{SemaphoreEntry}
use Rattle.semaphores.proofs.Counting.{counts_changed, more}
use Rattle.semaphores.proofs.Releasing.{waiting_not_ready}

-- the list is one longer than what is left of it
pub one_out : (t : QueueTable 64 130) (p q : ℕ) → place (lists t) p ≡ Some q
    → length (list_at (lists t) q) ≡ suc (length (without p (list_at (lists t) q)))
one_out t p q at =
    let d = placed t p q at in
    let w : without p (list_at (lists t) q) ≡ d.before ++ d.behind
    = ap (without p) d.is ∙ without-split p d.before d.key d.behind (front_of d) (rest_of_placed d) in
    let a : length (list_at (lists t) q) ≡ length d.before + suc (length d.behind)
    = ap length d.is ∙ length-append d.before ((p, d.key) ∷ d.behind) in
    let b : length (without p (list_at (lists t) q)) ≡ length d.before + length d.behind = ap length w ∙ length-append d.before d.behind in
    omega (arith, a, b)

-- somebody waits on the semaphore
pub waited_on : (t : QueueTable 64 130) (es : List SemaphoreEntry) (p q : ℕ) → Counts (lists t) es → q < 128 → place (lists t) p ≡ Some q
    → 0 < waiting_of (entry_at es q).count
waited_on t es p q k lt at = omega (arith, one_out t p q at, k.waiting q lt)

-- so its count has room for one more
pub has_room : (z : ℤ) → z <ℤ pos 0 → int_lt most_tokens (z +ℤ pos 1) ≡ false
has_room z h = grind (arith, ints)

-- queues from some number on have nobody of another queue
pub others_stay : (t : QueueTable 64 130) (p q r : ℕ) → place (lists t) p ≡ Some q → r ≢ q
    → list_at (all_without p (lists t)) r ≡ list_at (lists t) r
others_stay t p q r at n =
    list_at_without (lists t) p r ∙ without-absent p (list_at (lists t) r) (disjoint t p q r at (λ e. n (sym e)))

-- lists and processes still fit
pub forgotten_fits : (t : QueueTable 64 130) (p q : ℕ) (ps : List Process) → place (lists t) p ≡ Some q → q < 128 → Fits (lists t) ps
    → Fits (all_without p (lists t)) ps
forgotten_fits t p q ps at lt f =
    fits_left (lists t) ps p f (below_P t p q (place-some (lists t) p q at).1) (waiting_not_ready (lists t) ps p q f at lt)

-- and so do lists and counts
pub forgotten_counts : (t : QueueTable 64 130) (c : SemaphoreTable) (p q : ℕ) → Counts (lists t) c.entries → q < 128
    → place (lists t) p ≡ Some q
    → Counts (all_without p (lists t)) (with_count q ((entry_at c.entries q).count +ℤ pos 1) c).entries
forgotten_counts t c p q k lt at =
    let z = (entry_at c.entries q).count in
    let o = one_out t p q at in
    let w = k.waiting q lt in
    let y = (more z (z +ℤ pos 1) 1 refl).1 in
    let d = ap length (list_at_without (lists t) p q) in
    counts_changed (lists t) (all_without p (lists t)) c.entries q (record (entry_at c.entries q) { count = z +ℤ pos 1 }) k lt
    (omega (arith, d, o, w, y)) (λ none. (let n : waiting_of z ≡ 0 = ap waiting_of (k.unused q none) in absurd (omega (arith, n, o, w))))
    (λ r lr n. others_stay t p q r at n)

-- the semaphore whose queue was found
pub placed_as : (ls : List (List Entry)) (p i q sem : ℕ) → Some q ≡ place ls i → i ≡ p → sem ≡ q → place ls p ≡ Some sem
placed_as ls p i q sem at e s = sym (at ∙ ap (place ls) e) ∙ ap Some (sym s)

-- the queue that is known to be a semaphore's
pub queue_below : (o : Option ℕ) (q : ℕ) → o ≡ Some q → IsSomeAnd o (λ q. q < 128) → q < 128
queue_below None q e h = absurd (cc)
queue_below (Some x) q e h = let s : x ≡ q = cc in omega (arith, s, h)
