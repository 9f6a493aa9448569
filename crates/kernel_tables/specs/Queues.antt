-- How the lists of waiters and sleepers fit the semaphores, the clock and the processes.
use Rattle.std.specs.Prelude.{◌≡◌, ◌<◌, ℕ, Bool, true, false, List, Some, IsSomeAnd}
use Rattle.delta_clock.specs.Wakeups.{WakesLater}
use Rattle.process_core.specs.Tables.{process_in}
use Rattle.queue_table.specs.Lists.{Entry, list_at, numbers, place}
use Rattle.semaphores.specs.Counts.{Counts}
use Rattle.semaphores.specs.declared.sems.SemaphoreEntry.{SemaphoreEntry}
use Rattle.xinu_base.specs.declared.processes.Process.{Process}
use Rattle.xinu_base.specs.declared.processes.State.{State}
use Rattle.xinu_base.specs.declared.processes.State.TheVariants.{Timed, Waiting}
use Rattle.xinu_model.specs.Sound.Tables.{sleeping_places}

-- As many wait on each semaphore as its count says, and nobody sleeps whose tick has come.
pub record AreQueues (ls : List (List Entry)) (es : List SemaphoreEntry) : Type 0 where
  pub counts : Counts ls es
  pub later : WakesLater ls

-- The same processes wait on each semaphore, in the same order, and the ready list and that of the sleepers are the same.
pub record AreSameQueues (ls ms : List (List Entry)) : Type 0 where
  pub waiters : (sem : ℕ) → sem < 128 → numbers (list_at ls sem) ≡ numbers (list_at ms sem)
  pub ready : list_at ls 128 ≡ list_at ms 128
  pub sleepers : list_at ls 129 ≡ list_at ms 129

-- Whoever waits is in the queue of a semaphore, and whoever sleeps, perhaps for a message, is in that of the sleepers.
pub record ArePlaced (ls : List (List Entry)) (ps : List Process) : Type 0 where
  pub waiting : (p : ℕ) → (process_in ps p).state ≡ Waiting → IsSomeAnd (place ls p) (λ q. q < 128)
  pub sleeping : (p : ℕ) → sleeping_places (process_in ps p).state ≡ 1 → place ls p ≡ Some 129

-- whether a process of this state waits for a message with a time limit
abbrev pub is_timed : State → Bool
is_timed Timed = true
is_timed _ = false
