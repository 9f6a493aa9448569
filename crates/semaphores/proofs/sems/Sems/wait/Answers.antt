use Rattle.std.proofs.Common.{◌≡◌, ◌∙◌, ℕ, ◌-◌, ◌+◌, ◌<◌, ℤ, pos, ◌-ℤ◌, ◌≤ℤ◌, ◌<ℤ◌, int_lt, nat_lt, true, false, List, [], ◌∷◌, ◌++◌, length, sym, ap, refl, arith}
use Rattle.std.proofs.lemmas.Int.{ints}
use Rattle.std.proofs.lemmas.List.{length-append}
use Rattle.queue_table.specs.Lists.{Entry, list_at, with_list}
use Rattle.queue_table.specs.Table.{lists}
use Rattle.queue_table.proofs.Laws.{queues_of, list_at-same, list_at-other}
use Rattle.xinu_base.specs.declared.processes.State.TheVariants.{Waiting}
use Rattle.xinu_model.specs.Process.Scheduling.{in_state}
use Rattle.xinu_model.specs.Semaphores.Counts.{with_tokens}
use Rattle.xinu_model.specs.Tables.{InSemaphore, Nowhere, message_at, move_to, process_at}
use Rattle.process_core.proofs.Lengths.{short}
use Rattle.process_core.specs.Tables.{Beside, ProcessTable, process_in, tables_of}
use Rattle.process_core.proofs.Fitting.{current_nowhere, fits_waiting, running_within}
use Rattle.process_core.proofs.Moves.{then_waits}
use Rattle.semaphores.specs.Counts.{entry_at, waiting_of, beside}
use Rattle.semaphores.proofs.Counting.{counts_changed, unmarked, recounted, tokens_at, less_taken, less_waiting, count_least, marks_size, token_test, used_count}
use Rattle.semaphores.proofs.sems.Sems.wait.Goals as goal

pub lower-requires : goal.lower-requires
lower-requires c =
    let b : c.args.sem < 128 = c.has_token-took.ensures.within in
    let least = count_least (entry_at c.args.self.now.entries c.args.sem).count (length (list_at (lists c.args.lists.now) c.args.sem))
    (c.requires.counts.waiting c.args.sem b) (short c.args.lists.now c.args.sem) in
    record { least = omega (arith, ints, least) }

pub returns-then-took-clause-took : goal.returns-then-took-clause-took
returns-then-took-clause-took c m ticks =
    let b : c.args.sem < 128 = c.has_token-took.ensures.within in
    let k = c.args.self.now in
    sym c.if-took.true ∙ c.has_token-took.ensures.above ∙ token_test (entry_at k.entries c.args.sem).count
    ∙ ap (nat_lt 0) (sym (tokens_at (lists c.args.lists.now) c.args.procs.now k c.args.sem m ticks c.requires.counts.size b))

pub returns-clause-took : goal.returns-clause-took
returns-clause-took c m ticks =
    let b : c.args.sem < 128 = c.has_token-took.ensures.within in
    let k = c.args.self.now in
    sym c.if-took.false ∙ c.has_token-took.ensures.above ∙ token_test (entry_at k.entries c.args.sem).count
    ∙ ap (nat_lt 0) (sym (tokens_at (lists c.args.lists.now) c.args.procs.now k c.args.sem m ticks c.requires.counts.size b))

pub returns-then-took-clause-waits : goal.returns-then-took-clause-waits
returns-then-took-clause-waits c m ticks =
    let k = c.args.self.now in
    let z = (entry_at k.entries c.args.sem).count in
    let ls = lists c.args.lists.now in
    let t = tables_of ls c.args.procs.now (beside k m ticks) in
    let b : c.args.sem < 128 = c.has_token-took.ensures.within in
    let h : int_lt (pos 0) z ≡ true = sym c.has_token-took.ensures.above ∙ c.if-took.true in
    let above : pos 0 <ℤ z = grind (arith, ints) in
    rw c.lower.ensures.sems
    (recounted ls c.args.procs.now k c.args.sem (z -ℤ pos 1) m ticks c.requires.counts.size b
    ∙ ap (λ n. with_tokens c.args.sem n t) ((less_taken z (z -ℤ pos 1) refl above).0
    ∙ ap (λ n. n - 1) (sym (tokens_at ls c.args.procs.now k c.args.sem m ticks c.requires.counts.size b))))

pub returns-then-took-clause-counts : goal.returns-then-took-clause-counts
returns-then-took-clause-counts c =
    let k = c.args.self.now in
    let z = (entry_at k.entries c.args.sem).count in
    let ls = lists c.args.lists.now in
    let b : c.args.sem < 128 = c.has_token-took.ensures.within in
    let h : int_lt (pos 0) z ≡ true = sym c.has_token-took.ensures.above ∙ c.if-took.true in
    let above : pos 0 <ℤ z = grind (arith, ints) in
    let less = less_taken z (z -ℤ pos 1) refl above in
    rw c.lower.ensures.sems
    (counts_changed ls ls k.entries c.args.sem (record (entry_at k.entries c.args.sem) { count = z -ℤ pos 1 }) c.requires.counts b
    (c.requires.counts.waiting c.args.sem b ∙ less.2 ∙ sym less.1) (used_count (entry_at k.entries c.args.sem).owner _ c.requires.used)
    (λ r lr n. refl))

-- the current process, which waits, is put last into the queue of the semaphore
queued : (ls : List (List Entry)) (s u : ProcessTable) (b : Beside) (sem : ℕ) (k : ℤ) → sem < 128 → sem < length b.marks → length ls ≡ 130
    → tables_of ls u b ≡ (let t = tables_of ls s b in move_to t.current (in_state Waiting (process_at t t.current))
    (message_at t t.current) Nowhere t)
    → tables_of (with_list ls sem (list_at ls sem ++ (s.current, k) ∷ [])) u b
    ≡ (let t = tables_of ls s b in move_to t.current (in_state Waiting (process_at t t.current)) (message_at t t.current)
    (InSemaphore sem) t)
unfolding tables_of
queued ls s u b sem k lt marked n h =
    let t = tables_of ls s b in
    then_waits ls u b t s.current (in_state Waiting (process_in s.processes s.current)) (message_at t s.current) sem k lt marked n h

pub returns-clause-waits : goal.returns-clause-waits
returns-clause-waits c m ticks =
    let ls = lists c.args.lists.now in
    let s = c.args.procs.now in
    let k = c.args.self.now in
    let z = (entry_at k.entries c.args.sem).count in
    let b : c.args.sem < 128 = c.has_token-took.ensures.within in
    let h : int_lt (pos 0) z ≡ false = sym c.has_token-took.ensures.above ∙ c.if-took.false in
    let below : z ≤ℤ pos 0 = grind (arith, ints) in
    rw (
      c.enqueue.ensures.lists,
      c.lower.ensures.sems,
      unmarked k c.args.sem (z -ℤ pos 1) m ticks (less_waiting z (z -ℤ pos 1) refl below).0,
      c.index-2.ensures.index,
      c.index.ensures.index,
      c.current-current.ensures.current,
    )
    (queued ls s c.block.new.self (beside k m ticks) c.args.sem (pos 0) b (omega (arith, marks_size k m ticks, c.requires.counts.size))
    (queues_of c.args.lists.now) (c.block.ensures.blocked ls (beside k m ticks) c.requires.fits))

pub returns-clause-fits : goal.returns-clause-fits
returns-clause-fits c =
    let ls = lists c.args.lists.now in
    let s = c.args.procs.now in
    let b : c.args.sem < 128 = c.has_token-took.ensures.within in
    rw (c.enqueue.ensures.lists, c.block.ensures.procs, c.index-2.ensures.index, c.index.ensures.index, c.current-current.ensures.current)
    (fits_waiting ls s.processes s.current c.args.sem (pos 0) (in_state Waiting (process_in s.processes s.current)) c.requires.fits
    (queues_of c.args.lists.now)
    (running_within ls s.processes s.current c.requires.fits c.requires.runs) b refl
    (current_nowhere ls s.processes s.current c.requires.fits c.requires.runs))

pub returns-clause-counts : goal.returns-clause-counts
returns-clause-counts c =
    let ls = lists c.args.lists.now in
    let s = c.args.procs.now in
    let k = c.args.self.now in
    let z = (entry_at k.entries c.args.sem).count in
    let b : c.args.sem < 128 = c.has_token-took.ensures.within in
    let h : int_lt (pos 0) z ≡ false = sym c.has_token-took.ensures.above ∙ c.if-took.false in
    let below : z ≤ℤ pos 0 = grind (arith, ints) in
    let l : List Entry = list_at ls c.args.sem ++ (s.current, pos 0) ∷ [] in
    let n : length (list_at ls c.args.sem) ≡ waiting_of z = c.requires.counts.waiting c.args.sem b in
    let w = (less_waiting z (z -ℤ pos 1) refl below).1 in
    let a : length l ≡ length (list_at ls c.args.sem) + 1 = length-append (list_at ls c.args.sem) ((s.current, pos 0) ∷ []) in
    let there : length (list_at (with_list ls c.args.sem l) c.args.sem) ≡ length l
    = ap length (list_at-same ls c.args.sem l (omega (arith, queues_of c.args.lists.now))) in
    rw (c.enqueue.ensures.lists, c.lower.ensures.sems, c.index-2.ensures.index, c.index.ensures.index, c.current-current.ensures.current)
    (counts_changed ls (with_list ls c.args.sem l) k.entries c.args.sem
    (record (entry_at k.entries c.args.sem) { count = z -ℤ pos 1 }) c.requires.counts b
    (omega (arith, there, a, n, w)) (used_count (entry_at k.entries c.args.sem).owner _ c.requires.used)
    (λ r lr d. list_at-other ls c.args.sem l r d))
