-- How the lists fit the semaphores, the clock and the processes after a change of the lists.
use Rattle.std.proofs.Common.{◌≡◌, ◌≢◌, ◌<◌, ℕ, List, length, pos, sym, subst, refl, ap, ◌∙◌, arith, inl, inr}
use Rattle.std.specs.Option.{IsSomeAnd}
use Rattle.queue_table.specs.declared.table.QueueTable.{QueueTable}
use Rattle.queue_table.specs.Table.{lists}
use Rattle.queue_table.specs.Lists.{Entry, IsDelta, KeysAtLeast, delays, list_at}
use Rattle.delta_clock.specs.Wakeups.{WakesLater}
use Rattle.process_core.specs.Tables.{Beside, process_in, ProcessTable, tables_of, sleepers_of}
use Rattle.process_core.proofs.Placed.{sleeping_placed, timed_placed, waiting_placed}
use Rattle.semaphores.specs.Counts.{Counts}
use Rattle.semaphores.specs.declared.sems.SemaphoreEntry.{SemaphoreEntry}
use Rattle.xinu_model.specs.Sound.Tables.{IsInside}
use Rattle.xinu_model.specs.Tables.{state_at}
use Rattle.table_laws.proofs.Tables.Scheduling.{sleeping_of}
use Rattle.kernel_tables.specs.Queues.{ArePlaced, AreQueues}

-- the state of a process, by the tables and by the process table
pub state_in : (ls : List (List Entry)) (s : ProcessTable) (b : Beside) (p : ℕ)
    → state_at (tables_of ls s b) p ≡ (process_in s.processes p).state
unfolding tables_of
state_in ls s b p = refl

-- the sleepers' list stays
pub later_kept : (ls ms : List (List Entry)) → WakesLater ls → list_at ms 129 ≡ list_at ls 129 → WakesLater ms
later_kept ls ms w e = record {
  delta = subst IsDelta (sym e) w.delta;
  later = subst (λ l. KeysAtLeast (pos 1) (delays l)) (sym e) w.later;
}

-- the lists of waiters stay
pub counts_kept : (ls ms : List (List Entry)) (es : List SemaphoreEntry) → Counts ls es
    → ((q : ℕ) → q < 128 → list_at ms q ≡ list_at ls q) → Counts ms es
counts_kept ls ms es k same = record {
  size = k.size;
  waiting = λ sem lt. ap length (same sem lt) ∙ k.waiting sem lt;
  unused = k.unused;
}

-- no list but the ready list changes
pub queues_kept : (ls ms : List (List Entry)) (es : List SemaphoreEntry) → AreQueues ls es
    → ((q : ℕ) → q ≢ 128 → list_at ms q ≡ list_at ls q) → AreQueues ms es
queues_kept ls ms es k same = record {
  counts = counts_kept ls ms es k.counts (λ q lt. same q (λ e. omega (arith, lt, e)));
  later = later_kept ls ms k.later (same 129 (λ e. omega arith));
}

-- no list but those of ready processes and sleepers changes
pub queues_later : (ls ms : List (List Entry)) (es : List SemaphoreEntry) → AreQueues ls es
    → ((q : ℕ) → q ≢ 128 → q ≢ 129 → list_at ms q ≡ list_at ls q) → WakesLater ms → AreQueues ms es
queues_later ls ms es k same w = record {
  counts = counts_kept ls ms es k.counts (λ q lt. same q (λ e. omega (arith, lt, e)) (λ e. omega (arith, lt, e)));
  later = w;
}

-- What always holds of the tables says where a process is that waits or sleeps.
pub inside_placed : (t : QueueTable 64 130) (s : ProcessTable) (b : Beside) → IsInside (tables_of (lists t) s b)
    → ArePlaced (lists t) s.processes
inside_placed t s b o = record {
  waiting = λ p is. (let w = waiting_placed t s b p o is in subst (λ q. IsSomeAnd q (λ q. q < 128)) (sym w.at) w.below);
  sleeping = λ p is. elim (sleeping_of (process_in s.processes p).state (omega (arith, is))) [
    | inl e ↦ sleeping_placed t s b p o e
    | inr e ↦ timed_placed t s b p o e
  ];
}

-- the sleepers' list stays, and the lists of waiters fit their counts again
pub queues_counted : (ls ms : List (List Entry)) (es : List SemaphoreEntry) → WakesLater ls → list_at ms 129 ≡ list_at ls 129
    → Counts ms es → AreQueues ms es
queues_counted ls ms es w e k = record { counts = k; later = later_kept ls ms w e }

-- the sleepers are those of queue 129
pub sleepers_in : (ls : List (List Entry)) (s : ProcessTable) (b : Beside) → (tables_of ls s b).sleepers ≡ sleepers_of b.ticks (list_at ls 129)
unfolding tables_of
sleepers_in ls s b = refl

-- the ticks are the clock's
pub ticks_in : (ls : List (List Entry)) (s : ProcessTable) (b : Beside) → (tables_of ls s b).ticks ≡ b.ticks
unfolding tables_of
ticks_in ls s b = refl
