-- What the calls on pools touch. What calls on ports need too holds for any reach that allows pools.
use Rattle.std.proofs.Common.{◌≡◌, ◌<◌, ℕ, ◌&&◌, false, true, List, [], ◌∷◌, length, Option, None, Some, set, refl, sym, ap, subst, ◌∙◌, arith}
use Rattle.std.proofs.Math.ListN.{length-set}
use Rattle.std.specs.Prelude.{nat_lt}
use Rattle.std.proofs.lemmas.Bool.{ltb-true}
use Rattle.xinu_base.specs.declared.processes.Rest.TheVariants.{GetBuf}
use Rattle.xinu_base.specs.declared.semaphores.Owner.TheVariants as owner
use Rattle.xinu_model.specs.Footprints.{on_buffers, on_pools, on_new_pool}
use Rattle.xinu_model.specs.Heap.Cells.{Grant, take_memory}
use Rattle.xinu_model.specs.Machine.{Xinu, CallState, start, refused, goes_on}
use Rattle.xinu_model.specs.Messages.{held}
use Rattle.xinu_model.specs.Pools.Calls.{with_pool, made_pool, is_pool_size, mkbufpool, take_first, take_buffer, getbuf, go_on_getbuf, put_back, freed_buffer, freed_by, freebuf}
use Rattle.xinu_model.specs.Ports.Calls.{freed_buffers}
use Rattle.xinu_model.specs.Pools.Buffers.{BufferPool, no_pool, most_pools, pool_at, pool_bytes, whole_words, meets_pool, holder, with_free}
use Rattle.xinu_model.specs.Semaphores.Counts.{free_semaphore, make_semaphore, with_tokens}
use Rattle.xinu_model.specs.Semaphores.Waiting.{signalled, await}
use Rattle.xinu_model.specs.Sound.Tables.{FitsOwner, IsInside, IsSoundTables}
use Rattle.xinu_model.specs.Sound.Pools.{ArePools}
use Rattle.xinu_model.specs.Sound.State.{IsSound}
use Rattle.xinu_model.specs.Tables.{Tables, semaphore_at}
use Rattle.xinu_laws.specs.Touches.{Reach, reach, range_of, Touches}
use Rattle.table_laws.proofs.Lists.Maps.{map_set_same}
use Rattle.part_laws.proofs.HeapCells.Taken.{getmem_grants}
use Rattle.part_laws.proofs.HeapCells.Extent.{extent_marked}
use Rattle.table_laws.proofs.Frame.MoveTo.{same_written}
use Rattle.table_laws.proofs.Tables.Found.{free_semaphore_free}
use Rattle.xinu_laws.proofs.Pools.Holders.{holder_finds, by_holder}
use Rattle.table_laws.proofs.Tables.Owners.{owner_signalled}
use Rattle.table_laws.proofs.Tables.MoveTo.{semaphore_within}
use Rattle.table_laws.proofs.Tables.Unblock.{sound_signalled}
use Rattle.xinu_laws.proofs.Touches.{StaysIn, named, parts_new_pool, parts_pools, touches_parts, touches_refl, touches_trans, touches_either, touches_if}
use Rattle.xinu_laws.proofs.Touches.Moves.{MayTouch, touches_tokens, touches_make_semaphore, parts_signalled, touches_signalled, touches_take_token, touches_goes_on}

-- A reach that allows all pools to change.
pub record HasPools (f : Reach) : Type 0 where
  pub owner : (sem i : ℕ) → f.mine sem (Some (owner.Pool i)) ≡ false
  pub waits : (i : ℕ) → f.asks (GetBuf i) ≡ false
  pub parts : f.parts.pools ≡ true

-- that of the calls on pools does, and that of a call that takes a buffer
pub pools_reached : HasPools (reach on_pools)
pools_reached = record { owner = λ sem i. refl; waits = λ i. refl; parts = refl }

buffers_reached : HasPools (reach on_buffers)
buffers_reached = record { owner = λ sem i. refl; waits = λ i. refl; parts = refl }

-- Each pool names a semaphore of its own.
pub record OwnSemaphores (t : Tables) (pools : List BufferPool) : Type 0 where
  pub owner : (i : ℕ) → i < length pools → (semaphore_at t (pool_at pools i).semaphore).owner ≡ Some (owner.Pool i)

-- if the pools are sound each does
pub own_semaphores : (t : Tables) (pools : List BufferPool) → ArePools t pools → OwnSemaphores t pools
own_semaphores t pools k = record { owner = λ i h. (k.each i h).owner }

-- and still does with one more free buffer
own_set : (t u : Tables) (pools : List BufferPool) (a i : ℕ) → OwnSemaphores t pools
    → ((sem : ℕ) → (semaphore_at u sem).owner ≡ (semaphore_at t sem).owner)
    → OwnSemaphores u (set pools i (with_free a (pool_at pools i)))
own_set t u pools a i k same = record {
  owner = λ j h. (let x = with_free a (pool_at pools i) in
      same (pool_at (set pools i x) j).semaphore
      ∙ (ap (λ r. (semaphore_at t r).owner) (same_written (λ (y : BufferPool). y.semaphore) pools i j x no_pool refl) ∙ k.owner j (let e = length-set pools i x in omega arith)));
}

-- a held buffer that is put back leaves each pool its semaphore
put_back_owns : (a i : ℕ) (d : CallState) → OwnSemaphores d.state.tables d.state.parts.pools
    → OwnSemaphores (put_back a i d).state.tables (put_back a i d).state.parts.pools
put_back_owns a i d k =
    let pools = d.state.parts.pools in
    let pool = pool_at pools i in
    let e : CallState = record d { state = record d.state { parts = record d.state.parts { pools = set pools i (with_free a pool) } } } in
    subst (OwnSemaphores (signalled pool.semaphore e).state.tables) (sym (ap (λ p. p.pools) (parts_signalled pool.semaphore e)))
    (own_set d.state.tables (signalled pool.semaphore e).state.tables pools a i k (owner_signalled pool.semaphore e))

module _ {f : Reach} (a : HasPools f) where
  -- a pool's semaphore may be touched
  pool_may_be_touched : (t : Tables) (sem i : ℕ) → (semaphore_at t sem).owner ≡ Some (owner.Pool i) → MayTouch f t sem
  pool_may_be_touched t sem i e = record {
    owner = ap (f.mine sem) e ∙ a.owner sem i;
    rests = λ left g. ap f.asks (subst (λ o. FitsOwner sem o left) e g) ∙ a.waits i;
  }

  -- the free buffers of a pool change, and bytes in RAM if the reach allows it
  touches_free : (s : Xinu) (memory : List ℕ) (i : ℕ) (pool : BufferPool) → (f.parts.ram ≡ false → memory ≡ s.memory)
      → range_of pool ≡ range_of (pool_at s.parts.pools i)
      → Touches f s (record s { memory = memory; parts = record s.parts { pools = set s.parts.pools i pool } })
  touches_free s memory i pool ram e =
      touches_parts s _ refl refl ram
      (parts_pools a.parts s.parts (set s.parts.pools i pool) (map_set_same range_of s.parts.pools i pool no_pool e))

  -- A held buffer is put back.
  put_back_touches : (b i : ℕ) (d : CallState) → IsInside d.state.tables → OwnSemaphores d.state.tables d.state.parts.pools
      → i < length d.state.parts.pools → Touches f d.state (put_back b i d).state
  put_back_touches b i d o k h =
      let pool = pool_at d.state.parts.pools i in
      let e : CallState = record d { state = record d.state { parts = record d.state.parts { pools = set d.state.parts.pools i (with_free b pool) } } } in
      let first : Touches f d.state e.state = touches_free d.state d.state.memory i (with_free b pool) (λ _. refl) refl in
      touches_trans first (touches_signalled pool.semaphore e o (pool_may_be_touched d.state.tables pool.semaphore i (k.owner i h)))

  -- What is held at an address is given back.
  pub freed_buffer_touches : (b : ℕ) (d : CallState) → IsInside d.state.tables → OwnSemaphores d.state.tables d.state.parts.pools
      → Touches f d.state (freed_buffer b d).state
  freed_buffer_touches b d o k =
      by_holder (λ e. Touches f d.state e.state) b d (touches_refl d.state) (λ i h. put_back_touches b i d o k h.within)

-- then the tables stay sound, and each pool keeps its semaphore
pub freed_buffer_owns : (b : ℕ) (d : CallState) → OwnSemaphores d.state.tables d.state.parts.pools
    → OwnSemaphores (freed_buffer b d).state.tables (freed_buffer b d).state.parts.pools
freed_buffer_owns b d k = by_holder (λ e. OwnSemaphores e.state.tables e.state.parts.pools) b d k (λ i h. put_back_owns b i d k)

pub freed_buffer_sound : (b : ℕ) (d : CallState) → IsSoundTables d.state.tables → OwnSemaphores d.state.tables d.state.parts.pools
    → IsSoundTables (freed_buffer b d).state.tables
freed_buffer_sound b d t k = by_holder (λ e. IsSoundTables e.state.tables) b d t
    (λ i h. let pools = d.state.parts.pools in
    let pool = pool_at pools i in
    let owned = k.owner i h.within in
    sound_signalled pool.semaphore
    (record d { state = record d.state { parts = record d.state.parts { pools = set pools i (with_free b pool) } } }) t
    (semaphore_within d.state.tables pool.semaphore t.inside.semaphores (λ e. cc)) (λ e. cc))

-- Some are given back, one after another.
module _ {f : Reach} (a : HasPools f) where
  pub freed_buffers_touch : (messages : List ℕ) (d : CallState) → IsSoundTables d.state.tables
      → OwnSemaphores d.state.tables d.state.parts.pools → Touches f d.state (freed_buffers messages d).state
  freed_buffers_touch [] d t k = touches_refl d.state
  freed_buffers_touch (b ∷ messages) d t k =
      touches_trans (freed_buffer_touches a b d t.inside k)
      (freed_buffers_touch messages (freed_buffer b d) (freed_buffer_sound b d t k) (freed_buffer_owns b d k))

pub freed_buffers_sound : (messages : List ℕ) (d : CallState) → IsSoundTables d.state.tables
    → OwnSemaphores d.state.tables d.state.parts.pools → IsSoundTables (freed_buffers messages d).state.tables
freed_buffers_sound [] d t k = t
freed_buffers_sound (b ∷ messages) d t k =
    freed_buffers_sound messages (freed_buffer b d) (freed_buffer_sound b d t k) (freed_buffer_owns b d k)

-- Call 30.
freed_by_touches : (found : Option ℕ) (b : ℕ) (s : Xinu) → holder b s.parts.pools ≡ found → IsSound s
    → Touches (reach on_pools) s (freed_by found b s).call.state
freed_by_touches None b s e k = touches_refl s
freed_by_touches (Some i) b s e k =
    put_back_touches pools_reached b i (start s) k.tables.inside (own_semaphores s.tables s.parts.pools k.pools)
    (holder_finds b i s.parts.pools e).within

pub freebuf_touches : (b : ℕ) → StaysIn on_pools (freebuf b)
freebuf_touches b s k = freed_by_touches (holder b s.parts.pools) b s refl k

-- a buffer is taken
take_first_touches : (free : List ℕ) (i : ℕ) (s : Xinu) → Touches (reach on_buffers) s (take_first free i s).call.state
take_first_touches [] i s = touches_refl s
take_first_touches (a ∷ free) i s = touches_free buffers_reached s _ i (record (pool_at s.parts.pools i) { free = free }) (named refl) refl

-- Call 29.
pub getbuf_touches : (i : ℕ) → StaysIn on_buffers (getbuf i)
getbuf_touches i s k =
    let pool = pool_at s.parts.pools i in
    let sem = pool.semaphore in
    touches_if s (nat_lt i (length s.parts.pools)) (await sem (GetBuf i) (take_buffer i) s)
    (λ b. let e = (pool_may_be_touched buffers_reached s.tables sem i (k.pools.each i (ltb-true i (length s.parts.pools) b)).owner).owner in
    touches_take_token (semaphore_at s.tables sem).tokens sem (GetBuf i) (take_buffer i) s k.tables.runs e refl
    (λ n _. touches_trans (touches_tokens s sem n e) (take_first_touches pool.free i (record s { tables = with_tokens sem n s.tables }))))

-- The call goes on.
pub go_on_getbuf_touches : (i : ℕ) → StaysIn on_buffers (go_on_getbuf i)
go_on_getbuf_touches i s k =
    touches_trans (touches_goes_on refl (held s) s k.tables.runs) (take_first_touches (pool_at s.parts.pools i).free i (goes_on (held s) s))

-- a pool is made, if memory and a semaphore are found
made_pool_touches : (found : Option Grant) (sem : Option ℕ) (size n : ℕ) (s : Xinu) → free_semaphore s.tables ≡ sem
    → take_memory (pool_bytes size n) s.parts.heap ≡ found
    → Touches (reach on_new_pool) s (made_pool found sem size n s).call.state
made_pool_touches (Some grant) (Some sem) size n s e g =
    touches_either s (meets_pool grant.address (pool_bytes size n) s.parts.pools) (refused s) (with_pool grant sem size n s)
    (λ _. touches_refl s)
    (λ _. let i = length s.parts.pools in
    let t : Touches (reach on_new_pool) s (record s { tables = make_semaphore sem (owner.Pool i) n s.tables }) =
    touches_make_semaphore s sem (owner.Pool i) n (ap ((reach on_new_pool).mine sem) (free_semaphore_free s.tables sem e)) refl in
    let m = getmem_grants (pool_bytes size n) s.parts.heap grant g in
    record { frame = t.frame; stacks = t.stacks; free = λ e. record { was = (t.free e).was; harts = (t.free e).harts }; clock = t.clock; stay = t.stay; ram = t.ram; parts = parts_new_pool refl refl refl s.parts grant.heap _ (extent_marked m.taken) })
made_pool_touches (Some grant) None size n s e g = touches_refl s
made_pool_touches None sem size n s e g = touches_refl s

-- Call 28.
pub mkbufpool_touches : (size n : ℕ) → StaysIn on_new_pool (mkbufpool size n)
mkbufpool_touches size n s k =
    touches_if s (is_pool_size size n && nat_lt (length s.parts.pools) most_pools) _
    (λ _. made_pool_touches (take_memory (pool_bytes (whole_words size) n) s.parts.heap) (free_semaphore s.tables)
    (whole_words size) n s refl refl)
