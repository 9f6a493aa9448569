-- The calls on pools keep what holds of the tables.
use Rattle.std.proofs.Common.{◌≡◌, ℕ, ◌<◌, ◌&&◌, List, [], ◌∷◌, length, Option, None, Some, set, refl, sym, subst}
use Rattle.std.specs.Prelude.{nat_lt}
use Rattle.std.proofs.lemmas.Bool.{ltb-true}
use Rattle.xinu_base.specs.declared.processes.Rest.TheVariants.{GetBuf}
use Rattle.xinu_base.specs.declared.semaphores.Owner.{Owner}
use Rattle.xinu_base.specs.declared.semaphores.Owner.TheVariants as owner
use Rattle.xinu_model.specs.Heap.Cells.{Grant, take_memory}
use Rattle.xinu_model.specs.Machine.{Xinu, CallState, start, refused, goes_on}
use Rattle.xinu_model.specs.Messages.{held}
use Rattle.xinu_model.specs.Pools.Calls.{with_pool, made_pool, is_pool_size, mkbufpool, take_first, take_buffer, getbuf, go_on_getbuf, put_back, freed_buffer, freed_by, freebuf}
use Rattle.xinu_model.specs.Pools.Buffers.{most_pools, pool_at, pool_bytes, whole_words, meets_pool, holder, with_free}
use Rattle.xinu_model.specs.Semaphores.Counts.{free_semaphore, with_tokens}
use Rattle.xinu_model.specs.Sound.Tables.{FitsOwner, IsInside, IsSoundTables}
use Rattle.table_laws.specs.Preserve.{AreAlive, IsPreserved, MayCall}
use Rattle.table_laws.proofs.Preserve.{Preserves, refused_preserves, either_preserves, goes_on_may_call, await_preserves}
use Rattle.table_laws.proofs.Tables.Alive.{alive_signalled}
use Rattle.xinu_laws.proofs.Preserve.Semaphores.{sound_found_semaphore, harts_signalled}
use Rattle.xinu_laws.proofs.Pools.Holders.{IsHolder, holder_finds, by_holder}
use Rattle.xinu_laws.proofs.Pools.Calls.{HavePools}
use Rattle.table_laws.proofs.Tables.MoveTo.{semaphore_within}
use Rattle.table_laws.proofs.Tables.Unblock.{sound_signalled}
use Rattle.table_laws.proofs.Tables.Harts.{harts_same}

-- a pool is made, if memory and a semaphore are found
made_pool_preserves : (found : Option Grant) (sem : Option ℕ) (size n : ℕ) (s : Xinu) → free_semaphore s.tables ≡ sem → MayCall s
    → IsPreserved (made_pool found sem size n s)
made_pool_preserves (Some grant) (Some sem) size n s e c =
    either_preserves (meets_pool grant.address (pool_bytes size n) s.parts.pools) (refused s) (with_pool grant sem size n s)
    (λ _. refused_preserves s c)
    (λ _. record { tables = sound_found_semaphore s.tables sem n (owner.Pool (length s.parts.pools)) c.tables e (λ f. cc); harts = c.harts; released = tt })
made_pool_preserves (Some grant) None size n s e c = refused_preserves s c
made_pool_preserves None sem size n s e c = refused_preserves s c

-- Call 28.
pub mkbufpool_preserves : (size n : ℕ) → Preserves (mkbufpool size n)
mkbufpool_preserves size n s c = either_preserves (is_pool_size size n && nat_lt (length s.parts.pools) most_pools) _ _
    (λ _. made_pool_preserves (take_memory (pool_bytes (whole_words size) n) s.parts.heap) (free_semaphore s.tables)
    (whole_words size) n s refl c) (λ _. refused_preserves s c)

-- the first of some free buffers is taken
take_first_preserves : (free : List ℕ) (i : ℕ) → Preserves (take_first free i)
take_first_preserves [] i s c = refused_preserves s c
take_first_preserves (a ∷ free) i s c = record { tables = c.tables; harts = c.harts; released = tt }

-- Call 29.
pub getbuf_preserves : (i : ℕ) (s : Xinu) → MayCall s → HavePools s → IsPreserved (getbuf i s)
getbuf_preserves i s c k = either_preserves (nat_lt i (length s.parts.pools)) _ _
    (λ b. let pool = pool_at s.parts.pools i in
    let e = (k.each i (ltb-true i (length s.parts.pools) b)).owner in
    await_preserves pool.semaphore (GetBuf i) (take_buffer i) s c
    (semaphore_within s.tables pool.semaphore c.tables.inside.semaphores (λ f. cc))
    (subst (λ (by : Option Owner). FitsOwner pool.semaphore by (GetBuf i)) (sym e) refl)
    (λ n f d. take_first_preserves pool.free i (record s { tables = with_tokens pool.semaphore n s.tables }) d))
    (λ _. refused_preserves s c)

-- The call goes on.
pub go_on_getbuf_preserves : (i : ℕ) → Preserves (go_on_getbuf i)
go_on_getbuf_preserves i s c = take_first_preserves (pool_at s.parts.pools i).free i (goes_on (held s) s) (goes_on_may_call (held s) s c)

-- the semaphore of a pool that has a held buffer is in the table
holder_within : (a i : ℕ) (d : CallState) → IsInside d.state.tables → HavePools d.state → IsHolder a i d.state.parts.pools
    → (pool_at d.state.parts.pools i).semaphore < 128
holder_within a i d o k h =
    let e = (k.each i h.within).owner in
    semaphore_within d.state.tables (pool_at d.state.parts.pools i).semaphore o.semaphores (λ f. cc)

-- the buffer among the free ones of its pool, which is to be signalled
abbrev with_buffer : ℕ → ℕ → CallState → CallState
with_buffer a i d =
    record d { state = record d.state { parts = record d.state.parts { pools = set d.state.parts.pools i (with_free a (pool_at d.state.parts.pools i)) } } }

-- The current process goes on after that.
pub sound_put_back : (a i : ℕ) (d : CallState) → IsSoundTables d.state.tables → HavePools d.state → IsHolder a i d.state.parts.pools
    → IsSoundTables (put_back a i d).state.tables
sound_put_back a i d o k h =
    sound_signalled (pool_at d.state.parts.pools i).semaphore (with_buffer a i d) o (holder_within a i d o.inside k h)
    (λ f. let e = (k.each i h.within).owner in cc)

-- No registers change.
pub harts_put_back : (a i : ℕ) (d : CallState) → (put_back a i d).state.harts ≡ d.state.harts
harts_put_back a i d = harts_signalled (pool_at d.state.parts.pools i).semaphore (with_buffer a i d)

-- The current process goes on after that.
pub sound_freed_buffer : (a : ℕ) (d : CallState) → IsSoundTables d.state.tables → HavePools d.state
    → IsSoundTables (freed_buffer a d).state.tables
sound_freed_buffer a d o k = by_holder (λ e. IsSoundTables e.state.tables) a d o (λ i h. sound_put_back a i d o k h)

-- No registers change.
pub harts_freed_buffer : (a : ℕ) (d : CallState) → (freed_buffer a d).state.harts ≡ d.state.harts
harts_freed_buffer a d = by_holder (λ e. e.state.harts ≡ d.state.harts) a d refl (λ i h. harts_put_back a i d)

-- Who is released is alive.
pub alive_put_back : (a i : ℕ) (d : CallState) → IsInside d.state.tables → AreAlive d.state.tables d.released
    → AreAlive (put_back a i d).state.tables (put_back a i d).released
alive_put_back a i d o h = alive_signalled (pool_at d.state.parts.pools i).semaphore (with_buffer a i d) o h

pub alive_freed_buffer : (a : ℕ) (d : CallState) → IsInside d.state.tables → AreAlive d.state.tables d.released
    → AreAlive (freed_buffer a d).state.tables (freed_buffer a d).released
alive_freed_buffer a d o h = by_holder (λ e. AreAlive e.state.tables e.released) a d h (λ i g. alive_put_back a i d o h)

-- the process gives it back to the pool that has it
freed_by_preserves : (found : Option ℕ) (a : ℕ) (s : Xinu) → holder a s.parts.pools ≡ found → MayCall s → HavePools s
    → IsPreserved (freed_by found a s)
freed_by_preserves None a s e c k = refused_preserves s c
freed_by_preserves (Some i) a s e c k =
    record { tables = sound_put_back a i (start s) c.tables k (holder_finds a i s.parts.pools e); harts = harts_same s.harts _ (harts_put_back a i (start s)) c.harts; released = alive_put_back a i (start s) c.tables.inside tt }

-- Call 30.
pub freebuf_preserves : (a : ℕ) (s : Xinu) → MayCall s → HavePools s → IsPreserved (freebuf a s)
freebuf_preserves a s c k = freed_by_preserves (holder a s.parts.pools) a s refl c k
