-- Tokens and signals leave each semaphore its owner.
use Rattle.std.proofs.Common.{◌≡◌, ℕ, ◌+◌, List, [], ◌∷◌, refl}
use Rattle.xinu_model.specs.Machine.{CallState}
use Rattle.xinu_model.specs.Process.Scheduling.{in_state}
use Rattle.xinu_model.specs.Semaphores.Counts.{with_tokens}
use Rattle.xinu_model.specs.Semaphores.Waiting.{signal_first, signalled}
use Rattle.xinu_model.specs.Tables.{Semaphore, no_semaphore, Tables, process_at, message_at, semaphore_at, InReady}
use Rattle.xinu_base.specs.declared.processes.State.TheVariants.{Ready}
use Rattle.table_laws.proofs.Frame.MoveTo.{owner_move, same_written}

-- another number of tokens leaves each semaphore its owner
pub owner_tokens : (t : Tables) (sem n r : ℕ) → (semaphore_at (with_tokens sem n t) r).owner ≡ (semaphore_at t r).owner
owner_tokens t sem n r =
    same_written (λ (x : Semaphore). x.owner) t.semaphores sem r (record (semaphore_at t sem) { tokens = n }) no_semaphore refl

-- a signal leaves each semaphore its owner, by who waits
owner_signal_first : (sem : ℕ) (l : List ℕ) (d : CallState) (r : ℕ)
    → (semaphore_at (signal_first sem l d).state.tables r).owner ≡ (semaphore_at d.state.tables r).owner
owner_signal_first sem [] d r = owner_tokens d.state.tables sem ((semaphore_at d.state.tables sem).tokens + 1) r
owner_signal_first sem (p ∷ ps) d r = let t = d.state.tables in owner_move t p (in_state Ready (process_at t p)) (message_at t p) InReady r

-- A signal leaves each semaphore its owner.
pub owner_signalled : (sem : ℕ) (d : CallState) (r : ℕ)
    → (semaphore_at (signalled sem d).state.tables r).owner ≡ (semaphore_at d.state.tables r).owner
owner_signalled sem d r = owner_signal_first sem (semaphore_at d.state.tables sem).waiters d r
