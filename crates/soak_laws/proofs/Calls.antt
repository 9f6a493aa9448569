-- The calls of the programs but those on devices: after each they still run.
use Rattle.std.proofs.Common.{◌≡◌, ℕ, zero, suc, ◌+◌, ◌-◌, ◌*◌, ◌≤◌, ◌==◌, Bool, false, List, [], ◌∷◌, ◌++◌, length, max, Option, Some, None, refl, arith, ℤ, pos, negsuc}
use Rattle.std.specs.Prelude.{nat_lt, slice_set}
use Rattle.std.specs.List.{AllByRecursion}
use Rattle.std.proofs.lemmas.Bool.{cond_both}
use Rattle.soak_laws.specs.Four.{AreFour, IsEntry}
use Rattle.soak_laws.specs.Code.{IsLoaded}
use Rattle.soak_laws.specs.Running.{AreRunning, KeepRunning, LiesAbove, EachProgram, first_of}
use Rattle.soak_laws.proofs.Lists.{each_set}
use Rattle.soak_laws.proofs.Ram.{still_loaded}
use Rattle.soak_laws.proofs.Tables.{is_few, left_of, make_semaphore_kept, moved, with_entry}
use Rattle.soak_laws.proofs.Waits.{answered, awaited, blocked_on, delivered_kept, either, goes_on_kept, other_tables, received_on, refused_on, signalled_kept}
use Rattle.xinu_base.specs.Constants.{OK, TIMEOUT}
use Rattle.xinu_base.specs.declared.processes.Process.{Process}
use Rattle.xinu_base.specs.declared.processes.Rest.TheVariants as rest
use Rattle.xinu_base.specs.declared.processes.State.TheVariants.{Receiving, Sleeping, Timed}
use Rattle.xinu_base.specs.declared.semaphores.Owner.TheVariants as owner
use Rattle.xinu_model.specs.Clock.{sleepms}
use Rattle.xinu_model.specs.Heap.Calls.{getmem, granted}
use Rattle.xinu_model.specs.Heap.Cells.{Grant, Heap, cells_for, grant_at, lowest_free, marked, take_memory}
use Rattle.xinu_model.specs.Machine.{Xinu, refused, start}
use Rattle.std.specs.Int.{bytes_low_first}
use Rattle.xinu_model.specs.Memory.{with_number}
use Rattle.xinu_model.specs.Messages.{can_get, go_on_receive, held, receive, recvtime, send}
use Rattle.xinu_model.specs.Pools.Buffers.{BufferPool, addresses, new_pool, no_pool, pool_at, pool_bytes, whole_words}
use Rattle.xinu_model.specs.Pools.Calls.{getbuf, go_on_getbuf, made_pool, mkbufpool, take_buffer, take_first}
use Rattle.xinu_model.specs.Process.Calls.{chprio, is_ready, with_priority}
use Rattle.xinu_model.specs.Semaphores.Calls.{answers, made_semaphore, semcreate, signal, wait}
use Rattle.xinu_model.specs.Semaphores.Counts.{free_semaphore, is_good, make_semaphore}
use Rattle.xinu_model.specs.Tables.{InReady, InSleepers, Nowhere, Tables, is_free, message_at, process_at, state_at}

-- ---- the clock and messages

pub sleepms_on : {words : ℕ → List ℕ} (n : ℤ) (s : Xinu) → AreRunning words s → KeepRunning words (sleepms n s)
sleepms_on (negsuc n) s k = refused_on s k
sleepms_on (pos zero) s k = record { running = k; calm = refl }
sleepms_on (pos (suc n)) s k = blocked_on Sleeping rest.Nothing (InSleepers (s.tables.ticks + suc n)) s k refl tt

pub recvtime_on : {words : ℕ → List ℕ} (n : ℤ) (s : Xinu) → AreRunning words s → KeepRunning words (recvtime n s)
recvtime_on (negsuc n) s k = refused_on s k
recvtime_on (pos n) s k =
    received_on (held s) _ s k (blocked_on Timed rest.Timed (InSleepers (s.tables.ticks + max 1 n)) s k refl tt)

pub receive_on : {words : ℕ → List ℕ} (s : Xinu) → AreRunning words s → KeepRunning words (receive s)
receive_on s k = received_on (held s) _ s k (blocked_on Receiving rest.Receive Nowhere s k refl tt)

pub go_on_receive_on : {words : ℕ → List ℕ} (s : Xinu) → AreRunning words s → KeepRunning words (go_on_receive s)
go_on_receive_on s k = received_on (held s) _ s k (answered _ TIMEOUT (goes_on_kept None s k))

pub send_on : {words : ℕ → List ℕ} (p message : ℕ) (s : Xinu) → AreRunning words s → KeepRunning words (send p message s)
send_on p message s k =
    either (can_get p s.tables) _ (refused s) (λ can. answered _ OK (delivered_kept p message (start s) k can)) (λ _. refused_on s k)

-- ---- semaphores

pub semcreate_on : {words : ℕ → List ℕ} (n : ℤ) (s : Xinu) → AreRunning words s → KeepRunning words (semcreate n s)
semcreate_on (negsuc n) s k = refused_on s k
semcreate_on {words} (pos n) s k = by_number (free_semaphore s.tables)
  where
    by_number : (found : Option ℕ) → KeepRunning words (made_semaphore n found s)
    by_number None = refused_on s k
    by_number (Some sem) = answered _ (pos sem) (other_tables s (make_semaphore sem owner.Image n s.tables) k (make_semaphore_kept sem owner.Image n s.tables k.tables))

pub wait_on : {words : ℕ → List ℕ} (sem : ℕ) (s : Xinu) → AreRunning words s → KeepRunning words (wait sem s)
wait_on sem s k =
    either (is_good sem s.tables) _ (refused s) (λ _. awaited sem rest.Nothing (answers OK) s k tt (λ u m. answered _ OK m)) (λ _. refused_on s k)

pub signal_on : {words : ℕ → List ℕ} (sem : ℕ) (s : Xinu) → AreRunning words s → KeepRunning words (signal sem s)
signal_on sem s k = either _ _ (refused s) (λ _. answered _ OK (signalled_kept sem (start s) k)) (λ _. refused_on s k)

-- ---- priorities

-- p has another priority
repriced : (p : ℕ) (priority : ℤ) (t : Tables) → AreFour t → is_free (state_at t p) ≡ false → AreFour (with_priority p priority t)
repriced p priority t four alive =
    let x : Process = record (process_at t p) { priority = priority } in
    let one : IsEntry p x = record { lives = (four.entries p).lives; left = (four.entries p).left } in
    cond_both (is_ready (state_at t p)) _ _ AreFour
    (λ _. moved p x (message_at t p) InReady t four (is_few p (process_at t p) (four.entries p) alive) alive (left_of t p four))
    (λ _. with_entry t p x four one)

pub chprio_on : {words : ℕ → List ℕ} (p : ℕ) (priority : ℤ) (s : Xinu) → AreRunning words s → KeepRunning words (chprio p priority s)
chprio_on p priority s k =
    either (is_free (state_at s.tables p)) (refused s) _ (λ _. refused_on s k)
    (λ alive. answered _ _ (other_tables s _ k (repriced p priority s.tables k.tables alive)))

-- ---- the heap

-- what holds of what the heap grants, if it holds of nothing and of each address above the heap's lowest
grants : (P : Option Grant → Type 0) (n : ℕ) (h : Heap) → P None
    → ((place : ℕ) (cells : List Bool) → P (Some (record { address = h.low + 8 * place; heap = record h { cells = cells } })))
    → P (take_memory n h)
grants P n h none some = cond_both (n == 0) None (grant_at h (cells_for n) (lowest_free (cells_for n) h.cells)) P (λ _. none) (λ _. by_place (lowest_free (cells_for n) h.cells))
  where
    by_place : (found : Option ℕ) → P (grant_at h (cells_for n) found)
    by_place None = none
    by_place (Some place) = some place (marked false place (cells_for n) h.cells)

pub getmem_on : {words : ℕ → List ℕ} (n : ℕ) (s : Xinu) → AreRunning words s → KeepRunning words (getmem n s)
getmem_on {words} n s k =
    grants (λ found. KeepRunning words (granted found s)) n s.parts.heap (refused_on s k)
    (λ place cells. record { running = record { tables = k.tables; harts = k.harts; loaded = k.loaded; pools = k.pools; calls = k.calls }; calm = refl })

-- ---- pools

-- addresses from one on
above : (low a step n : ℕ) → low ≤ a → AllByRecursion (λ b. low ≤ b) (addresses a step n)
above low a step zero more = tt
above low a step (suc n) more = (more, above low (a + step) step n (omega arith))

-- one pool more
each_more : (low : ℕ) (pools : List BufferPool) (pool : BufferPool) → ((i : ℕ) → LiesAbove low (pool_at pools i)) → LiesAbove low pool
    → (i : ℕ) → LiesAbove low (pool_at (pools ++ pool ∷ []) i)
each_more low [] pool all one zero = one
each_more low [] pool all one (suc i) = all i
each_more low (x ∷ pools) pool all one zero = all zero
each_more low (x ∷ pools) pool all one (suc i) = each_more low pools pool (λ j. all (suc j)) one i

pub mkbufpool_on : {words : ℕ → List ℕ} (size n : ℕ) (s : Xinu) → AreRunning words s → KeepRunning words (mkbufpool size n s)
mkbufpool_on {words} size n s k =
    either _ _ (refused s)
    (λ _. grants (λ found. KeepRunning words (made_pool found (free_semaphore s.tables) (whole_words size) n s)) (pool_bytes (whole_words size) n) s.parts.heap
    (none (free_semaphore s.tables)) (λ place cells. some place cells (free_semaphore s.tables)))
    (λ _. refused_on s k)
  where
    none : (sem : Option ℕ) → KeepRunning words (made_pool None sem (whole_words size) n s)
    none sem = refused_on s k

    some : (place : ℕ) (cells : List Bool) (sem : Option ℕ)
        → KeepRunning words (made_pool (Some (record { address = s.parts.heap.low + 8 * place; heap = record s.parts.heap { cells = cells } })) sem (whole_words size) n s)
    some place cells None = refused_on s k
    some place cells (Some sem) =
        either _ (refused s) _ (λ _. refused_on s k)
        (λ _. record {
          running = record {
            tables = make_semaphore_kept sem (owner.Pool (length s.parts.pools)) n s.tables k.tables;
            harts = k.harts;
            loaded = k.loaded;
            pools = each_more s.parts.heap.low s.parts.pools (new_pool (s.parts.heap.low + 8 * place) (whole_words size) n sem) k.pools
                (above (s.parts.heap.low + 4) (s.parts.heap.low + 8 * place + 4) (whole_words size + 4) n (omega arith));
            calls = k.calls;
          };
          calm = refl;
        })

-- the first free buffer is taken, and its pool's number is written before it
taken_first : {words : ℕ → List ℕ} (free : List ℕ) (i : ℕ) (s : Xinu) → AreRunning words s → AllByRecursion (λ a. s.parts.heap.low + 4 ≤ a) free
    → KeepRunning words (take_first free i s)
taken_first [] i s k all = refused_on s k
taken_first {words} (a ∷ free) i s k all =
    record { running = record { tables = k.tables; harts = k.harts; loaded = loaded; pools = pools; calls = k.calls }; calm = refl }
  where
    pool : BufferPool
    pool = record (pool_at s.parts.pools i) { free = free }

    state : Xinu
    state = record s {
      memory = with_number s.memory (a - 4) 4 i;
      parts = record s.parts { pools = slice_set s.parts.pools i pool };
    }

    loaded : EachProgram (λ p. IsLoaded (first_of p) (words p) s.parts.heap.low (with_number s.memory (a - 4) 4 i))
    loaded p some few = still_loaded (first_of p) (words p) s.memory (bytes_low_first 0 4 i) s.parts.heap.low (a - 4) 4 (omega (arith, all.0)) (k.loaded p some few)

    pools : (j : ℕ) → LiesAbove s.parts.heap.low (pool_at (slice_set s.parts.pools i pool) j)
    pools = each_set (λ j x. LiesAbove s.parts.heap.low x) s.parts.pools i pool no_pool k.pools all.1

buffer_taken : {words : ℕ → List ℕ} (i : ℕ) (s : Xinu) → AreRunning words s → KeepRunning words (take_buffer i s)
buffer_taken i s k = taken_first (pool_at s.parts.pools i).free i s k (k.pools i)

pub getbuf_on : {words : ℕ → List ℕ} (i : ℕ) (s : Xinu) → AreRunning words s → KeepRunning words (getbuf i s)
getbuf_on i s k =
    either (nat_lt i (length s.parts.pools)) _ (refused s)
    (λ _. awaited (pool_at s.parts.pools i).semaphore (rest.GetBuf i) (take_buffer i) s k tt (λ u m. buffer_taken i u m)) (λ _. refused_on s k)

pub go_on_getbuf_on : {words : ℕ → List ℕ} (i : ℕ) (s : Xinu) → AreRunning words s → KeepRunning words (go_on_getbuf i s)
go_on_getbuf_on i s k = buffer_taken i _ (goes_on_kept (held s) s k)
