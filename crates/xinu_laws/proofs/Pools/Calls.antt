-- The calls that take a buffer and give one back keep what holds of the pools.
use Rattle.std.proofs.Common.{◌≡◌, ◌≢◌, ℕ, zero, suc, ◌<◌, ◌≤◌, List, [], ◌∷◌, length, Option, None, Some, set, refl, sym, ap, subst, arith}
use Rattle.std.specs.Prelude.{nat_lt}
use Rattle.std.proofs.lemmas.Bool.{cond_both, ltb-true}
use Rattle.xinu_base.specs.declared.processes.Rest.TheVariants.{Nothing, GetBuf}
use Rattle.xinu_base.specs.declared.processes.State.TheVariants.{Waiting}
use Rattle.xinu_model.specs.Machine.{Parts, Xinu, CallState, CallResult, start, refused, goes_on}
use Rattle.xinu_model.specs.Messages.{held}
use Rattle.xinu_model.specs.Pools.Calls.{take_first, take_buffer, getbuf, go_on_getbuf, put_back, freed_buffer, freed_by, freebuf}
use Rattle.xinu_model.specs.Pools.Buffers.{pool_at, holder, with_free}
use Rattle.xinu_model.specs.Semaphores.Counts.{with_tokens}
use Rattle.xinu_model.specs.Semaphores.Waiting.{signalled, take_token, await}
use Rattle.xinu_model.specs.Sound.Tables.{IsInside, IsSoundTables}
use Rattle.xinu_model.specs.Sound.Pools.{asks_pool, ArePools}
use Rattle.xinu_model.specs.Tables.{Tables, process_at, message_at, semaphore_at, Nowhere, InSemaphore}
use Rattle.table_laws.specs.Frame.{Frame}
use Rattle.table_laws.proofs.Frame.MoveTo.{owner_move}
use Rattle.xinu_laws.proofs.Pools.Holders.{IsHolder, holder_finds, by_holder}
use Rattle.table_laws.proofs.Tables.Owners.{owner_tokens, owner_signalled}
use Rattle.xinu_laws.proofs.Touches.Moves.{frame_goes_on, parts_signalled}
use Rattle.table_laws.proofs.Preserve.{current_within}
use Rattle.xinu_laws.proofs.Pools.Frame.{is_pool}
use Rattle.xinu_laws.proofs.Pools.Change.{promised, pool_kept, pool_taken, pool_put_back, are_pools_set, are_pools_kept}
use Rattle.xinu_laws.proofs.Pools.Steps.{pool_semaphore_within, promised_token, promised_blocked, promised_goes_on, promised_signalled, frame_pool_token, frame_pool_blocked, frame_pool_signalled}

-- what holds of the pools holds in a state
abbrev pub HavePools : Xinu → Type 0
HavePools s = ArePools s.tables s.parts.pools

-- Since the tables t, if what holds of the pools held, one promised buffer of pool i was taken; one of these free ones is given out.
pools_taken : (t : Tables) (s : Xinu) (i : ℕ) (free : List ℕ) → ArePools t s.parts.pools → i < length s.parts.pools
    → (pool_at s.parts.pools i).free ≡ free → ((j : ℕ) → j ≢ i → Frame (is_pool j) (asks_pool j) t s.tables)
    → ((r : ℕ) → (semaphore_at s.tables r).owner ≡ (semaphore_at t r).owner)
    → suc (promised i (pool_at s.parts.pools i).semaphore s.tables) ≤ promised i (pool_at s.parts.pools i).semaphore t
    → HavePools (take_first free i s).call.state
pools_taken t s i [] k here e others owners h = let f = (k.each i here).enough in let g : length (pool_at s.parts.pools i).free ≡ 0 = ap length e in absurd (omega arith)
pools_taken t s i (a ∷ free) k here e others owners h =
    let pool = pool_at s.parts.pools i in
    are_pools_set t s.tables s.parts.pools i (record pool { free = free }) here (record { base = refl; size = refl; number = refl; semaphore = refl })
    (pool_taken t s.tables i pool a free (k.each i here) e (owners pool.semaphore) h) others owners k

-- a buffer of pool i is awaited, by these tokens
pools_awaited : (tokens i : ℕ) (s : Xinu) → tokens ≡ (semaphore_at s.tables (pool_at s.parts.pools i).semaphore).tokens
    → IsSoundTables s.tables → HavePools s → i < length s.parts.pools
    → HavePools (take_token tokens (pool_at s.parts.pools i).semaphore (GetBuf i) (take_buffer i) s).call.state
pools_awaited zero i s e o k here =
    let t = s.tables in
    let pool = pool_at s.parts.pools i in
    let x = record (process_at t t.current) { state = Waiting; rest = GetBuf i } in
    let m = message_at t t.current in
    let place = InSemaphore pool.semaphore in
    let sound = k.each i here in
    are_pools_kept t _ s.parts.pools i here
    (pool_kept t _ i pool sound (owner_move t t.current x m place pool.semaphore)
    (promised_blocked t i pool.semaphore t.current x m place
    (let c = current_within t o in let n = o.inside.processes in omega arith) refl))
    (λ j n. frame_pool_blocked i j n pool.semaphore s sound.owner) (λ r. owner_move t t.current x m place r) k
pools_awaited (suc n) i s e o k here =
    let t = s.tables in
    let pool = pool_at s.parts.pools i in
    let sound = k.each i here in
    pools_taken t (record s { tables = with_tokens pool.semaphore n t }) i pool.free k here refl
    (λ j other. frame_pool_token i j other t pool.semaphore n sound.owner) (λ r. owner_tokens t pool.semaphore n r)
    (promised_token t i pool.semaphore n (pool_semaphore_within t pool.semaphore i o.inside sound.owner) (sym e))

-- Call 29.
pub pools_getbuf : (i : ℕ) (s : Xinu) → IsSoundTables s.tables → HavePools s → HavePools (getbuf i s).call.state
pools_getbuf i s o k =
    let semaphore = (pool_at s.parts.pools i).semaphore in
    cond_both (nat_lt i (length s.parts.pools)) (await semaphore (GetBuf i) (take_buffer i) s) (refused s)
    (λ (h : CallResult). HavePools h.call.state)
    (λ b. pools_awaited (semaphore_at s.tables semaphore).tokens i s refl o k (ltb-true i (length s.parts.pools) b)) (λ _. k)

-- The call goes on.
pub pools_go_on_getbuf : (i : ℕ) (s : Xinu) → IsSoundTables s.tables → HavePools s → (process_at s.tables s.tables.current).rest ≡ GetBuf i
    → HavePools (go_on_getbuf i s).call.state
pools_go_on_getbuf i s o k e =
    let t = s.tables in
    let x = record (process_at t t.current) { rest = Nothing } in
    let pool = pool_at s.parts.pools i in
    pools_taken t (goes_on (held s) s) i pool.free k (k.made t.current i e) refl
    (λ j other. frame_goes_on {mine = is_pool j} {asks = asks_pool j} refl (held s) s) (λ r. owner_move t t.current x (held s) Nowhere r)
    (promised_goes_on i pool.semaphore (held s) s (let c = current_within t o in let n = o.inside.processes in omega arith) o.runs e)

-- A held buffer is put back.
pub pools_put_back : (a i : ℕ) (d : CallState) → IsInside d.state.tables → HavePools d.state → IsHolder a i d.state.parts.pools
    → HavePools (put_back a i d).state
pools_put_back a i d o k h =
    let t = d.state.tables in
    let pools = d.state.parts.pools in
    let pool = pool_at pools i in
    let e = record d { state = record d.state { parts = record d.state.parts { pools = set pools i (with_free a pool) } } } in
    let u = (signalled pool.semaphore e).state.tables in
    let sound = k.each i h.within in
    subst (ArePools u) (sym (ap (λ (p : Parts). p.pools) (parts_signalled pool.semaphore e)))
    (are_pools_set t u pools i (with_free a pool) h.within (record { base = refl; size = refl; number = refl; semaphore = refl })
    (pool_put_back t u i pool a sound h.held (owner_signalled pool.semaphore e pool.semaphore)
    (promised_signalled i pool.semaphore e o (pool_semaphore_within t pool.semaphore i o sound.owner)))
    (λ j other. frame_pool_signalled i j other pool.semaphore e o sound.owner) (λ r. owner_signalled pool.semaphore e r) k)

-- What is held at an address is given back.
pub pools_freed_buffer : (a : ℕ) (d : CallState) → IsInside d.state.tables → HavePools d.state → HavePools (freed_buffer a d).state
pools_freed_buffer a d o k = by_holder (λ e. HavePools e.state) a d k (λ i h. pools_put_back a i d o k h)

-- a process gives it back to the pool that has it
pools_freed_by : (found : Option ℕ) (a : ℕ) (s : Xinu) → holder a s.parts.pools ≡ found → IsInside s.tables → HavePools s
    → HavePools (freed_by found a s).call.state
pools_freed_by None a s e o k = k
pools_freed_by (Some i) a s e o k = pools_put_back a i (start s) o k (holder_finds a i s.parts.pools e)

-- Call 30.
pub pools_freebuf : (a : ℕ) (s : Xinu) → IsInside s.tables → HavePools s → HavePools (freebuf a s).call.state
pools_freebuf a s o k = pools_freed_by (holder a s.parts.pools) a s refl o k
