-- Tables are equal if and only if the lists, as far as they are compared, and what is beside them are.
use Rattle.std.proofs.Common.{◌≡◌, ◌∙◌, ℕ, zero, suc, ◌+◌, ◌<◌, ◌≤◌, ℤ, pos, negsuc, List, [], ◌∷◌, map, length, drop, get_or, take, Option, refl, sym, ap, arith}
use Rattle.std.proofs.lemmas.Int.{ints}
use Rattle.std.proofs.lemmas.List.{get_or_default, same_lists}
use Rattle.process_core.specs.Tables.{Mark, ProcessTable, numbers, semaphore_of, semaphores_of, sleepers_of, tables_of, wake_tick}
use Rattle.queue_table.specs.Lists.{Entry, KeysAtLeast, delays, differences, list_at}
use Rattle.queue_table.specs.Table.{lists}
use Rattle.queue_table.proofs.Deltas.{differences-delays}
use Rattle.queue_table.proofs.Laws.{queues_of}
use Rattle.semaphores.specs.declared.sems.SemaphoreEntry.{SemaphoreEntry}
use Rattle.semaphores.specs.Counts.{Counts, SemaphoreTable, beside, entry_at, mark_in, no_entry, tokens_of, waiting_of}
use Rattle.semaphores.proofs.Counting.{length-numbers, owner_at, tokens_at, waiters_at}
use Rattle.xinu_base.specs.declared.semaphores.Owner.{Owner}
use Rattle.xinu_model.specs.Tables.{Tables, semaphore_at}
use Rattle.kernel_tables.specs.KernelTables.{AreTables, kernel_tables}
use Rattle.kernel_tables.specs.declared.tables.KernelTables.TheInside.{Inside}
use Rattle.kernel_tables.specs.Queues.{AreQueues, AreSameQueues}

-- semaphores with the same marks and waiters are the same
same_semaphores : (n : ℕ) (ls ms : List (List Entry)) (marks : List Mark) → n ≤ length ls → n ≤ length ms
    → ((k : ℕ) → k < n → numbers (list_at ls k) ≡ numbers (list_at ms k)) → semaphores_of (take n ls) marks ≡ semaphores_of (take n ms) marks
same_semaphores zero ls ms marks le le' same = refl
same_semaphores (suc n) [] ms marks le le' same = absurd (omega arith)
same_semaphores (suc n) (l ∷ ls) [] marks le le' same = absurd (omega arith)
same_semaphores (suc n) (l ∷ ls) (m ∷ ms) [] le le' same = refl
same_semaphores (suc n) (l ∷ ls) (m ∷ ms) (mark ∷ marks) le le' same =
    ap (λ ws. record { owner = mark.owner; tokens = mark.tokens; waiters = ws } ∷ semaphores_of (take n ls) marks) (same zero (omega arith))
    ∙ ap (λ rest. semaphore_of m mark ∷ rest) (same_semaphores n ls ms marks (omega arith) (omega arith) (λ k lt. same (suc k) (omega arith)))

-- the same queues with the same table and the same beside them are the same tables
pub same_tables : (ls ms : List (List Entry)) (p : ProcessTable) (c : SemaphoreTable) (m : List (Option ℕ)) (ticks : ℕ) → length ls ≡ 130 → length ms ≡ 130
    → AreSameQueues ls ms → tables_of ls p (beside c m ticks) ≡ tables_of ms p (beside c m ticks)
unfolding tables_of
same_tables ls ms p c m ticks n n' q =
    let semaphores = same_semaphores 128 ls ms (map mark_in c.entries) (omega (arith, n)) (omega (arith, n')) q.waiters in
    let ready = q.ready in
    let sleepers = ap (sleepers_of ticks) q.sleepers in
    cc

-- counts with the same tokens and as many waiters are the same
same_count : (i j : ℤ) → tokens_of i ≡ tokens_of j → waiting_of i ≡ waiting_of j → i ≡ j
same_count (pos n) (pos k) t w = ap pos t
same_count (pos n) (negsuc k) t w = absurd (omega (arith, w))
same_count (negsuc n) (pos k) t w = absurd (omega (arith, w))
same_count (negsuc n) (negsuc k) t w = ap negsuc (omega (arith, w))

-- the entries of the semaphores of equal tables are the same
pub same_sems : (ls ms : List (List Entry)) (p r : ProcessTable) (c d : SemaphoreTable) (m k : List (Option ℕ)) (ticks now : ℕ) → Counts ls c.entries → Counts ms d.entries
    → tables_of ls p (beside c m ticks) ≡ tables_of ms r (beside d k now) → c.entries ≡ d.entries
same_sems ls ms p r c d m k ticks now a b same =
    same_lists c.entries d.entries (a.size ∙ sym b.size) (λ sem x lt. let lt' : sem < 128 = omega (arith, a.size) in
    let owner : (entry_at c.entries sem).owner ≡ (entry_at d.entries sem).owner =
    sym (owner_at ls p c sem m ticks) ∙ ap (λ (t : Tables). (semaphore_at t sem).owner) same ∙ owner_at ms r d sem k now in
    let tokens : tokens_of (entry_at c.entries sem).count ≡ tokens_of (entry_at d.entries sem).count =
    sym (tokens_at ls p c sem m ticks a.size lt') ∙ ap (λ (t : Tables). (semaphore_at t sem).tokens) same ∙ tokens_at ms r d sem k now b.size lt' in
    let waiters : numbers (list_at ls sem) ≡ numbers (list_at ms sem) =
    sym (waiters_at ls p c sem m ticks a.size lt') ∙ ap (λ (t : Tables). (semaphore_at t sem).waiters) same ∙ waiters_at ms r d sem k now b.size lt' in
    let waiting : waiting_of (entry_at c.entries sem).count ≡ waiting_of (entry_at d.entries sem).count =
    sym (a.waiting sem lt') ∙ sym (length-numbers (list_at ls sem)) ∙ ap (λ (l : List ℕ). length l) waiters ∙ length-numbers (list_at ms sem) ∙ b.waiting sem lt' in
    let count = same_count (entry_at c.entries sem).count (entry_at d.entries sem).count tokens waiting in
    let entry : entry_at c.entries sem ≡ entry_at d.entries sem =
    ap (λ (o : Option Owner). record { owner = o; count = (entry_at c.entries sem).count }) owner
    ∙ ap (λ (n : ℤ). record { owner = (entry_at d.entries sem).owner; count = n }) count in
    get_or_default c.entries sem x no_entry lt ∙ entry ∙ get_or_default d.entries sem no_entry x (omega (arith, b.size)))

-- a sleeper with the tick at which it wakes
abbrev woken : ℕ → Entry → ℕ × ℕ
woken ticks e = (e.0, wake_tick ticks e.1)

-- the ticks at which sleepers wake tell their delays
same_delays : (ticks : ℕ) (l m : List Entry) → KeysAtLeast (pos 1) l → KeysAtLeast (pos 1) m
    → map (woken ticks) l ≡ map (woken ticks) m → l ≡ m
same_delays ticks [] [] a b same = refl
same_delays ticks [] (f ∷ m) a b same = absurd (cc)
same_delays ticks (e ∷ l) [] a b same = absurd (cc)
same_delays ticks ((p, negsuc n) ∷ l) (f ∷ m) a b same = absurd (omega (arith, ints, a.0))
same_delays ticks ((p, pos n) ∷ l) ((q, negsuc k) ∷ m) a b same = absurd (omega (arith, ints, b.0))
same_delays ticks ((p, pos n) ∷ l) ((q, pos k) ∷ m) a b same =
    let first : ◌≡◌ {A = ℕ × ℕ} (p, ticks + n) (q, ticks + k) = ap (λ (x : List (ℕ × ℕ)). get_or x 0 (p, ticks + n)) same in
    let rest = same_delays ticks l m a.1 b.1 (ap (λ (x : List (ℕ × ℕ)). drop 1 x) same) in
    let who : p ≡ q = ap (λ (e : ℕ × ℕ). e.0) first in
    let delay : n ≡ k = omega (arith, ap (λ (e : ℕ × ℕ). e.1) first) in
    ap (λ x. (x, pos n) ∷ l) who ∙ ap (λ x. (q, pos x) ∷ l) delay ∙ ap (λ x. (q, pos k) ∷ x) rest

-- the queues of equal tables are the same
pub same_queues : (ls ms : List (List Entry)) (p r : ProcessTable) (c d : SemaphoreTable) (m k : List (Option ℕ)) (ticks now : ℕ) → AreQueues ls c.entries → AreQueues ms d.entries
    → tables_of ls p (beside c m ticks) ≡ tables_of ms r (beside d k now) → AreSameQueues ls ms
unfolding tables_of
same_queues ls ms p r c d m k ticks now a b same = record {
  waiters = λ sem lt. sym (waiters_at ls p c sem m ticks a.counts.size lt) ∙ ap (λ (t : Tables). (semaphore_at t sem).waiters) same
      ∙ waiters_at ms r d sem k now b.counts.size lt;
  ready = ap (λ (t : Tables). t.ready) same;
  sleepers =
      let same_ticks : ticks ≡ now = ap (λ (t : Tables). t.ticks) same in
      let ahead : sleepers_of ticks (list_at ls 129) ≡ sleepers_of ticks (list_at ms 129) =
      ap (λ (t : Tables). t.sleepers) same ∙ ap (λ n. sleepers_of n (list_at ms 129)) (sym same_ticks) in
      sym (differences-delays (list_at ls 129)) ∙ ap differences (same_delays ticks (delays (list_at ls 129)) (delays (list_at ms 129)) a.later.later b.later.later ahead)
      ∙ differences-delays (list_at ms 129);
}

-- Tables whose parts are the same, and lists as far as they are compared.
pub record AreSameParts (a b : Inside) : Type 0 where
  pub procs : a.procs ≡ b.procs
  pub sems : a.sems ≡ b.sems
  pub slots : a.slots ≡ b.slots
  pub clock : a.clock ≡ b.clock
  pub queues : AreSameQueues (lists a.lists) (lists b.lists)

-- equal tables have the same parts
pub parts_of : (a b : Inside) → AreTables a → AreTables b → kernel_tables a ≡ kernel_tables b → AreSameParts a b
unfolding tables_of
parts_of a b k j same =
    let entries : a.sems.entries ≡ b.sems.entries =
    same_sems (lists a.lists) (lists b.lists) a.procs b.procs a.sems b.sems a.slots b.slots a.clock b.clock k.queues.counts j.queues.counts same in
    record {
      procs = ap (λ (t : Tables). record { processes = t.processes; current = t.current; quantum = t.quantum; last_process = t.last_process }) same;
      sems = ap (λ (es : List SemaphoreEntry). record { entries = es; last_semaphore = a.sems.last_semaphore }) entries
          ∙ ap (λ (t : Tables). record { entries = b.sems.entries; last_semaphore = t.last_semaphore }) same;
      slots = ap (λ (t : Tables). t.messages) same;
      clock = ap (λ (t : Tables). t.ticks) same;
      queues = same_queues (lists a.lists) (lists b.lists) a.procs b.procs a.sems b.sems a.slots b.slots a.clock b.clock k.queues j.queues same;
    }

-- tables with the same parts are equal
pub tables_from : (a b : Inside) → AreSameParts a b → kernel_tables a ≡ kernel_tables b
tables_from a b p =
    ap (λ (x : ProcessTable). tables_of (lists a.lists) x (beside a.sems a.slots a.clock)) p.procs
    ∙ ap (λ (x : SemaphoreTable). tables_of (lists a.lists) b.procs (beside x a.slots a.clock)) p.sems
    ∙ ap (λ (x : List (Option ℕ)). tables_of (lists a.lists) b.procs (beside b.sems x a.clock)) p.slots
    ∙ ap (λ x. tables_of (lists a.lists) b.procs (beside b.sems b.slots x)) p.clock
    ∙ same_tables (lists a.lists) (lists b.lists) b.procs b.sems b.slots b.clock (queues_of a.lists) (queues_of b.lists) p.queues
