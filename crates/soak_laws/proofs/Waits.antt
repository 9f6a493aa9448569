-- Moves inside an event after which the programs still run.
use Rattle.std.proofs.Common.{◌≡◌, ℕ, zero, suc, ◌+◌, ◌≤◌, Bool, true, false, not, cond, List, [], ◌∷◌, take, set, Option, Some, None, is_some, refl, ℤ}
use Rattle.std.proofs.lemmas.Bool.{cond_both, and_parts, not-true}
use Rattle.soak_laws.specs.Four.{AreFew, AreFour, MayBeLeft}
use Rattle.soak_laws.specs.Running.{AreRunning, KeepRunning}
use Rattle.soak_laws.proofs.Tables.{is_few, left_of, lives, made_ready, moved, same_lists, with_tokens_kept}
use Rattle.xinu_base.specs.Constants.{OK}
use Rattle.xinu_base.specs.declared.processes.Rest.{Rest}
use Rattle.xinu_base.specs.declared.processes.State.{State}
use Rattle.xinu_base.specs.declared.processes.State.TheVariants.{Waiting, Ready}
use Rattle.xinu_model.specs.Machine.{CallResult, CallState, Xinu, blocked, goes_on, refused, returns, unblock_all_with, unblock_with}
use Rattle.xinu_model.specs.Messages.{can_get, delivered, listens, received}
use Rattle.xinu_model.specs.Process.Scheduling.{in_state, ready}
use Rattle.xinu_model.specs.Semaphores.Counts.{with_tokens}
use Rattle.xinu_model.specs.Semaphores.Waiting.{await, signal_first, signalled, signalled_times, take_token}
use Rattle.xinu_model.specs.Tables.{InReady, InSemaphore, Nowhere, Place, Tables, is_free, message_at, process_at, semaphore_at, state_at}

-- other tables
pub other_tables : {words : ℕ → List ℕ} (s : Xinu) (t : Tables) → AreRunning words s → AreFour t → AreRunning words (record s { tables = t })
other_tables s t k four = record { tables = four; harts = k.harts; loaded = k.loaded; pools = k.pools; calls = k.calls }

-- ---- releases

pub unblocked : {words : ℕ → List ℕ} (value : ℤ) (p : ℕ) (d : CallState) → AreRunning words d.state → p ≤ 4 → AreRunning words (unblock_with value p d).state
unblocked value p d k few = other_tables d.state (ready p d.state.tables) k (made_ready p d.state.tables k.tables few)

pub all_unblocked : {words : ℕ → List ℕ} (value : ℤ) (ps : List ℕ) (d : CallState) → AreRunning words d.state → AreFew ps
    → AreRunning words (unblock_all_with value ps d).state
all_unblocked value [] d k few = k
all_unblocked value (p ∷ ps) d k few = all_unblocked value ps (unblock_with value p d) (unblocked value p d k few.0) few.1

pub few_taken : (n : ℕ) (ps : List ℕ) → AreFew ps → AreFew (take n ps)
few_taken zero ps few = tt
few_taken (suc n) [] few = tt
few_taken (suc n) (p ∷ ps) few = (few.0, few_taken n ps few.1)

-- other tokens
pub other_tokens : {words : ℕ → List ℕ} (sem n : ℕ) (s : Xinu) → AreRunning words s → AreRunning words (record s { tables = with_tokens sem n s.tables })
other_tokens sem n s k = other_tables s (with_tokens sem n s.tables) k (with_tokens_kept sem n s.tables k.tables)

-- a signal
pub signalled_kept : {words : ℕ → List ℕ} (sem : ℕ) (d : CallState) → AreRunning words d.state → AreRunning words (signalled sem d).state
signalled_kept {words} sem d k = by_waiters (semaphore_at d.state.tables sem).waiters (k.tables.waiters sem)
  where
    by_waiters : (ps : List ℕ) → AreFew ps → AreRunning words (signal_first sem ps d).state
    by_waiters [] few = other_tokens sem ((semaphore_at d.state.tables sem).tokens + 1) d.state k
    by_waiters (p ∷ ps) few = unblocked OK p d k few.0

-- n signals
pub signals_kept : {words : ℕ → List ℕ} (sem n : ℕ) (d : CallState) → AreRunning words d.state → AreRunning words (signalled_times sem n d).state
signals_kept sem n d k =
    let x = semaphore_at d.state.tables sem in
    let after = all_unblocked _ (take n x.waiters) d k (few_taken n x.waiters (k.tables.waiters sem)) in
    other_tokens sem _ _ after

-- ---- the caller

-- a call that is answered in a state in which they run
pub answered : {words : ℕ → List ℕ} (d : CallState) (value : ℤ) → AreRunning words d.state → KeepRunning words (returns d value)
answered d value k = record { running = k; calm = refl }

pub refused_on : {words : ℕ → List ℕ} (s : Xinu) → AreRunning words s → KeepRunning words (refused s)
refused_on s k = record { running = k; calm = refl }

-- either of two ways to go on
pub either : {words : ℕ → List ℕ} (b : Bool) (x y : CallResult) → (b ≡ true → KeepRunning words x) → (b ≡ false → KeepRunning words y) → KeepRunning words (cond b x y)
either {words} b x y holds fails = cond_both b x y (KeepRunning words) holds fails

-- the caller waits
pub blocked_on : {words : ℕ → List ℕ} (state : State) (left : Rest) (place : Place) (s : Xinu) → AreRunning words s → is_free state ≡ false → MayBeLeft left
    → KeepRunning words (blocked state left place s)
blocked_on state left place s k alive may =
    let t = s.tables in
    record { running = other_tables s _ k (moved t.current _ (message_at t t.current) place t k.tables k.tables.current alive may); calm = refl }

-- the caller goes on
pub goes_on_kept : {words : ℕ → List ℕ} (message : Option ℕ) (s : Xinu) → AreRunning words s → AreRunning words (goes_on message s)
goes_on_kept message s k =
    let t = s.tables in
    other_tables s _ k (moved t.current _ message Nowhere t k.tables k.tables.current (lives t t.current k.tables k.tables.current) tt)

-- the caller waits for a token
pub awaited : {words : ℕ → List ℕ} (sem : ℕ) (left : Rest) (then_ : Xinu → CallResult) (s : Xinu) → AreRunning words s → MayBeLeft left
    → ((u : Xinu) → AreRunning words u → KeepRunning words (then_ u)) → KeepRunning words (await sem left then_ s)
awaited {words} sem left then_ s k may go = by_tokens (semaphore_at s.tables sem).tokens
  where
    by_tokens : (n : ℕ) → KeepRunning words (take_token n sem left then_ s)
    by_tokens zero = blocked_on Waiting left (InSemaphore sem) s k refl may
    by_tokens (suc n) = go (record s { tables = with_tokens sem n s.tables }) (other_tokens sem n s k)

-- ---- messages

-- a message is taken, or another way gone
pub received_on : {words : ℕ → List ℕ} (message : Option ℕ) (otherwise : CallResult) (s : Xinu) → AreRunning words s → KeepRunning words otherwise
    → KeepRunning words (received message otherwise s)
received_on None otherwise s k other = other
received_on (Some message) otherwise s k other = answered _ _ (goes_on_kept None s k)

-- a message is delivered to one that is alive
pub delivered_kept : {words : ℕ → List ℕ} (p message : ℕ) (d : CallState) → AreRunning words d.state → can_get p d.state.tables ≡ true
    → AreRunning words (delivered p message d).state
delivered_kept {words} p message d k can =
    let t = d.state.tables in
    let alive = not-true (is_free (state_at t p)) (and_parts (not (is_free (state_at t p))) (not (is_some (message_at t p))) can).0 in
    let few = is_few p (process_at t p) (k.tables.entries p) alive in
    cond_both (listens (state_at t p)) _ _ (λ (x : CallState). AreRunning words x.state)
    (λ _. other_tables d.state _ k (moved p (in_state Ready (process_at t p)) (Some message) InReady t k.tables few refl (left_of t p k.tables)))
    (λ _. other_tables d.state _ k (same_lists t (set t.messages p (Some message)) t.quantum t.ticks k.tables))
