-- Signals and waits keep what holds of the tables inside an event, step by step.
use Rattle.std.proofs.Common.{◌≡◌, ◌≢◌, ℕ, ◌+◌, ◌<◌, List, [], ◌∷◌, refl, subst, sym, inr, None}
use Rattle.xinu_base.specs.declared.processes.Process.{Process}
use Rattle.xinu_base.specs.declared.processes.Rest.{Rest}
use Rattle.xinu_base.specs.declared.processes.State.TheVariants.{Waiting}
use Rattle.table_laws.specs.Moves.{CanMove, CanBeReady}
use Rattle.xinu_model.specs.Process.Scheduling.{ready}
use Rattle.xinu_model.specs.Semaphores.Counts.{with_tokens}
use Rattle.xinu_model.specs.Sound.Tables.{count_in, FitsOwner, IsInside, IsSoundTables}
use Rattle.xinu_model.specs.Tables.{Tables, process_at, message_at, semaphore_at, InSemaphore, move_to}
use Rattle.table_laws.proofs.Lists.Counts.{first_is_counted}
use Rattle.table_laws.proofs.Preserve.{current_within, waits_hold}
use Rattle.table_laws.proofs.Tables.Changes.{inside_tokens}
use Rattle.table_laws.proofs.Tables.MoveTo.{inside_move}
use Rattle.table_laws.proofs.Tables.Scheduling.{inside_ready}
use Rattle.table_laws.proofs.Tables.Unblock.{can_be_ready_waiting, waiter_waits}

-- The first waiter of a semaphore can become ready,
pub first_waiter : (t : Tables) (sem p : ℕ) (ps : List ℕ) → IsInside t → (semaphore_at t sem).waiters ≡ p ∷ ps → CanBeReady t p
first_waiter t sem p ps o e =
    can_be_ready_waiting t p o (waiter_waits t sem p o (subst (λ l. 0 < count_in p l) (sym e) (first_is_counted p ps)))

-- and becomes so at a signal.
pub inside_signal : (t : Tables) (sem p : ℕ) (ps : List ℕ) → IsInside t → (semaphore_at t sem).waiters ≡ p ∷ ps → IsInside (ready p t)
inside_signal t sem p ps o e = inside_ready t p o (first_waiter t sem p ps o e)

-- A signal on a semaphore in use, without a waiter, adds a token.
pub inside_more : (t : Tables) (sem : ℕ) → IsInside t → sem < 128 → (semaphore_at t sem).owner ≢ None → (semaphore_at t sem).waiters ≡ []
    → IsInside (with_tokens sem ((semaphore_at t sem).tokens + 1) t)
inside_more t sem o w used e = inside_tokens t sem ((semaphore_at t sem).tokens + 1) o w used (inr e)

-- The caller waits on a semaphore without tokens, with what its owner calls for left of its call.
pub inside_wait : (t : Tables) (sem : ℕ) (left : Rest) → IsSoundTables t → t.current ≢ 0 → sem < 128 → (semaphore_at t sem).tokens ≡ 0
    → FitsOwner sem (semaphore_at t sem).owner left
    → IsInside (move_to t.current (record (process_at t t.current) { state = Waiting; rest = left }) (message_at t t.current) (InSemaphore sem) t)
inside_wait t sem left k not_null w none fits =
    let x : Process = record (process_at t t.current) { state = Waiting; rest = left } in
    let m = message_at t t.current in
    let c : CanMove t t.current x m (InSemaphore sem) = record {
      within = current_within t k;
      place_of = (refl, refl, refl);
      if_current = λ _. refl;
      if_null = λ e. absurd (not_null e);
      fits = (w, none, fits);
      slot = waits_hold sem (semaphore_at t sem).owner left m fits;
      if_free = λ e. absurd (cc);
    } in
    inside_move t t.current x m (InSemaphore sem) k.inside c
