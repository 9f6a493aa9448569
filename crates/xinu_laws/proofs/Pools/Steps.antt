-- What each move on the semaphore of a pool does to the buffers that are promised, and that other pools are left alone.
use Rattle.std.proofs.Common.{◌≡◌, ◌≢◌, ℕ, suc, ◌+◌, ◌<◌, ◌≤◌, ◌==◌, Bool, true, false, not, cond, List, [], ◌∷◌, length, Option, Some, refl, sym, ap, subst, ◌∙◌, arith, get_or-set_same}
use Rattle.std.proofs.lemmas.Bool.{and_from, and_left, and_right, eq-eqb, ne_eqb}
use Rattle.xinu_base.specs.declared.processes.Process.{Process}
use Rattle.xinu_base.specs.declared.processes.Rest.TheVariants.{Nothing, GetBuf}
use Rattle.xinu_base.specs.declared.processes.State.TheVariants.{Current, Ready, Waiting}
use Rattle.xinu_base.specs.declared.semaphores.Owner.TheVariants as owner
use Rattle.xinu_model.specs.Footprints.{on_tables}
use Rattle.table_laws.specs.Frame.{Frame}
use Rattle.xinu_model.specs.Machine.{Xinu, CallState, blocked, goes_on}
use Rattle.xinu_model.specs.Process.Scheduling.{in_state}
use Rattle.xinu_model.specs.Semaphores.Counts.{with_tokens}
use Rattle.xinu_model.specs.Semaphores.Waiting.{signal_first, signalled}
use Rattle.xinu_model.specs.Sound.Tables.{count_in, FitsOwner, IsInside}
use Rattle.xinu_model.specs.Sound.Pools.{is_waiting, asks_pool, is_released_to_pool}
use Rattle.xinu_model.specs.Tables.{no_process, Semaphore, no_semaphore, Tables, process_at, state_at, message_at, semaphore_at, Place, Nowhere, InReady, InSemaphore, move_to}
use Rattle.xinu_laws.specs.Touches.{Reach}
use Rattle.table_laws.proofs.Frame.MoveTo.{tokens_move}
use Rattle.table_laws.proofs.Lists.Counts.{times-set, first_is_counted}
use Rattle.xinu_laws.proofs.Pools.Frame.{is_pool}
use Rattle.xinu_laws.proofs.Pools.Change.{promised}
use Rattle.table_laws.proofs.Tables.MoveTo.{semaphore_within, within_table}
use Rattle.table_laws.proofs.Tables.Unblock.{waiter_waits}
use Rattle.xinu_laws.proofs.Touches.Moves.{MayTouch, frame_blocked, touches_signalled}
use Rattle.table_laws.proofs.Frame.Semaphores.{frame_semaphore}

-- what doesn't pass adds nothing to a count
pub counts_none : (b : Bool) → b ≡ false → cond {A = ℕ} b 1 0 ≡ 0
counts_none b e = ap (λ c. cond c 1 0) e

-- and what passes adds one
pub counts_one : (b : Bool) → b ≡ true → cond {A = ℕ} b 1 0 ≡ 1
counts_one b e = ap (λ c. cond c 1 0) e

-- the number of a pool isn't that of another
other_number : (i j : ℕ) → j ≢ i → (i == j) ≡ false
other_number i j n = ne_eqb i j (λ e. n (sym e))

-- the semaphore of a pool is in the table
pub pool_semaphore_within : (t : Tables) (sem i : ℕ) → IsInside t → (semaphore_at t sem).owner ≡ Some (owner.Pool i)
    → sem < length t.semaphores
pool_semaphore_within t sem i o e = let h = semaphore_within t sem o.semaphores (λ f. cc) in let k = o.semaphores in omega arith

-- these are its tokens then
pub tokens_tokens : (t : Tables) (sem n : ℕ) → sem < length t.semaphores → (semaphore_at (with_tokens sem n t) sem).tokens ≡ n
tokens_tokens t sem n h =
    ap (λ (x : Semaphore). x.tokens) (get_or-set_same t.semaphores sem (record (semaphore_at t sem) { tokens = n }) no_semaphore h)

-- A token that is taken takes one promised buffer.
pub promised_token : (t : Tables) (i sem n : ℕ) → sem < length t.semaphores → (semaphore_at t sem).tokens ≡ suc n
    → suc (promised i sem (with_tokens sem n t)) ≤ promised i sem t
promised_token t i sem n h e = let f = tokens_tokens t sem n h in omega arith

-- who waits isn't released
waiting_unreleased : (i : ℕ) (x : Process) → x.state ≡ Waiting → is_released_to_pool i x ≡ false
waiting_unreleased i x e = and_left (not (is_waiting x.state)) (asks_pool i x.rest) (ap (λ y. not (is_waiting y)) e)

-- A caller that waits is promised none.
pub promised_blocked : (t : Tables) (i sem q : ℕ) (x : Process) (m : Option ℕ) (place : Place) → q < length t.processes → x.state ≡ Waiting
    → promised i sem (move_to q x m place t) ≤ promised i sem t
promised_blocked t i sem q x m place h w =
    let e = times-set (is_released_to_pool i) t.processes q x no_process h in
    let f = counts_none (is_released_to_pool i x) (waiting_unreleased i x w) in
    let g = tokens_move t q x m place sem in
    omega arith

-- who was released and is to take a buffer of pool i counts
released_here : (i : ℕ) (x : Process) → x.state ≡ Current → x.rest ≡ GetBuf i → is_released_to_pool i x ≡ true
released_here i x c r =
    and_from (not (is_waiting x.state)) (asks_pool i x.rest) (ap (λ y. not (is_waiting y)) c) (ap (asks_pool i) r ∙ eq-eqb i i refl)

-- A process that goes on takes one promised buffer.
pub promised_goes_on : (i r : ℕ) (message : Option ℕ) (s : Xinu) → s.tables.current < length s.tables.processes
    → state_at s.tables s.tables.current ≡ Current → (process_at s.tables s.tables.current).rest ≡ GetBuf i
    → suc (promised i r (goes_on message s).tables) ≤ promised i r s.tables
promised_goes_on i r message s h c left =
    let t = s.tables in
    let x = record (process_at t t.current) { rest = Nothing } in
    let e = times-set (is_released_to_pool i) t.processes t.current x no_process h in
    let f = counts_one (is_released_to_pool i (process_at t t.current)) (released_here i (process_at t t.current) c left) in
    let g = counts_none (is_released_to_pool i x) (and_right (not (is_waiting x.state)) (asks_pool i Nothing) refl) in
    let k = tokens_move t t.current x message Nowhere r in
    omega arith

-- at most one
pub at_most_one : (b : Bool) → cond b 1 0 ≤ 1
at_most_one true = omega arith
at_most_one false = omega arith

-- one signal promises one more at most, by who waits
promised_signal_first : (i sem : ℕ) (l : List ℕ) (d : CallState) → IsInside d.state.tables → sem < length d.state.tables.semaphores
    → ((p : ℕ) → 0 < count_in p l → p < length d.state.tables.processes)
    → promised i sem (signal_first sem l d).state.tables ≤ suc (promised i sem d.state.tables)
promised_signal_first i sem [] d o h w = let e = tokens_tokens d.state.tables sem ((semaphore_at d.state.tables sem).tokens + 1) h in omega arith
promised_signal_first i sem (p ∷ ps) d o h w =
    let t = d.state.tables in
    let x = in_state Ready (process_at t p) in
    let e = times-set (is_released_to_pool i) t.processes p x no_process (w p (first_is_counted p ps)) in
    let f = at_most_one (is_released_to_pool i x) in
    let g = tokens_move t p x (message_at t p) InReady sem in
    omega arith

-- who waits on a semaphore is in the table
pub waiter_within : (t : Tables) (sem : ℕ) → IsInside t → (p : ℕ) → 0 < count_in p (semaphore_at t sem).waiters → p < length t.processes
waiter_within t sem o p h =
    let e = waiter_waits t sem p o h in
    let f = within_table t p o.processes (λ g. cc) in
    let k = o.processes in
    omega arith

-- A signal promises one buffer more at most.
pub promised_signalled : (i sem : ℕ) (d : CallState) → IsInside d.state.tables → sem < length d.state.tables.semaphores
    → promised i sem (signalled sem d).state.tables ≤ suc (promised i sem d.state.tables)
promised_signalled i sem d o h =
    promised_signal_first i sem (semaphore_at d.state.tables sem).waiters d o h (waiter_within d.state.tables sem o)

-- what leaves pool j alone, and may touch the other tables
abbrev pub beside_pool : ℕ → Reach
beside_pool j = record { mine = is_pool j; asks = asks_pool j; parts = on_tables; clock = false }

module _ (i j : ℕ) (other : j ≢ i) where
  -- the semaphore of pool i isn't pool j's
  other_owner : (t : Tables) (sem : ℕ) → (semaphore_at t sem).owner ≡ Some (owner.Pool i) → is_pool j sem (semaphore_at t sem).owner ≡ false
  other_owner t sem e = ap (is_pool j sem) e ∙ other_number i j other

  -- it may be touched while pool j is left alone
  other_may_be_touched : (t : Tables) (sem : ℕ) → (semaphore_at t sem).owner ≡ Some (owner.Pool i) → MayTouch (beside_pool j) t sem
  other_may_be_touched t sem e = record { owner = other_owner t sem e; rests = λ left g. ap (asks_pool j) (subst (λ o. FitsOwner sem o left) e g) ∙ other_number i j other }

  -- Pool j is left alone if a token of pool i is taken,
  pub frame_pool_token : (t : Tables) (sem n : ℕ) → (semaphore_at t sem).owner ≡ Some (owner.Pool i)
      → Frame (is_pool j) (asks_pool j) t (with_tokens sem n t)
  frame_pool_token t sem n e =
      frame_semaphore t sem (record (semaphore_at t sem) { tokens = n }) (other_owner t sem e) (other_owner t sem e)

  -- if a caller waits for a buffer of pool i,
  pub frame_pool_blocked : (sem : ℕ) (s : Xinu) → (semaphore_at s.tables sem).owner ≡ Some (owner.Pool i)
      → Frame (is_pool j) (asks_pool j) s.tables (blocked Waiting (GetBuf i) (InSemaphore sem) s).call.state.tables
  frame_pool_blocked sem s e =
      frame_blocked {mine = is_pool j} {asks = asks_pool j} Waiting (GetBuf i) (InSemaphore sem) s (other_owner s.tables sem e)
      (other_number i j other)

  -- and if pool i is signalled.
  pub frame_pool_signalled : (sem : ℕ) (d : CallState) → IsInside d.state.tables
      → (semaphore_at d.state.tables sem).owner ≡ Some (owner.Pool i)
      → Frame (is_pool j) (asks_pool j) d.state.tables (signalled sem d).state.tables
  frame_pool_signalled sem d o e = (touches_signalled {f = beside_pool j} sem d o (other_may_be_touched d.state.tables sem e)).frame
