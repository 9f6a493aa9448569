-- What a move of the tables leaves alone: some semaphores, by number and owner, and the processes in some calls.
use Rattle.std.specs.Prelude.{◌≡◌, ℕ, ◌<◌, Bool, true, ◌&&◌, filter, length, Option}
use Rattle.xinu_base.specs.declared.processes.Process.{Process}
use Rattle.xinu_base.specs.declared.processes.Rest.{Rest}
use Rattle.xinu_base.specs.declared.semaphores.Owner.{Owner}
use Rattle.xinu_model.specs.Sound.Tables.{count_in}
use Rattle.xinu_model.specs.Sound.Pools.{is_waiting}
use Rattle.xinu_model.specs.Tables.{Tables, process_at, semaphore_at}

-- whether a process waits on a semaphore in such a call
abbrev pub waits_in : (Rest → Bool) → Process → Bool
waits_in asks x = is_waiting x.state && asks x.rest

-- the same of process p
abbrev pub waits_at : (Rest → Bool) → Tables → ℕ → Bool
waits_at asks t p = waits_in asks (process_at t p)

-- Who waits in such a call in t still does in u.
pub record StillWait (asks : Rest → Bool) (t u : Tables) : Type 0 where
  pub stay : (p : ℕ) → waits_at asks t p ≡ true → waits_at asks u p ≡ true

-- From t to u the semaphores that are `mine`, by number and owner, keep owner and tokens, none is new, nobody is a new waiter of one, and
-- those who still wait in such a call do so in the same order. Whoever is in such a call in u was in it in t, waiting or not as now.
pub record Frame (mine : ℕ → Option Owner → Bool) (asks : Rest → Bool) (t u : Tables) : Type 0 where
  pub many : length u.processes ≡ length t.processes
  pub kept : (sem : ℕ) → mine sem (semaphore_at t sem).owner ≡ true
      → ((semaphore_at u sem).owner ≡ (semaphore_at t sem).owner) × ((semaphore_at u sem).tokens ≡ (semaphore_at t sem).tokens)
  pub old : (sem : ℕ) → mine sem (semaphore_at u sem).owner ≡ true → (semaphore_at u sem).owner ≡ (semaphore_at t sem).owner
  pub waiters : (sem p : ℕ) → mine sem (semaphore_at t sem).owner ≡ true → 0 < count_in p (semaphore_at u sem).waiters
      → 0 < count_in p (semaphore_at t sem).waiters
  pub order : (sem : ℕ) → mine sem (semaphore_at t sem).owner ≡ true
      → filter (waits_at asks u) (semaphore_at u sem).waiters ≡ filter (waits_at asks u) (semaphore_at t sem).waiters
  pub rests : (p : ℕ) → asks (process_at u p).rest ≡ true
      → ((process_at u p).rest ≡ (process_at t p).rest) × (is_waiting (process_at u p).state ≡ is_waiting (process_at t p).state)
