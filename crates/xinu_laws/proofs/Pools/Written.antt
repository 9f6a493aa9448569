-- The call that takes a buffer writes the pool's number into RAM, which keeps its size.
use Rattle.std.proofs.Common.{◌≡◌, ℕ, zero, suc, ◌+◌, ◌-◌, ◌≤◌, true, List, [], ◌∷◌, length, ◌∙◌, arith}
use Rattle.std.specs.Prelude.{nat_lt}
use Rattle.std.specs.List.{AllByRecursion}
use Rattle.std.proofs.lemmas.Bool.{cond_both, ltb-true}
use Rattle.xinu_base.specs.declared.processes.Rest.TheVariants.{GetBuf}
use Rattle.xinu_model.specs.Machine.{Xinu, CallResult, refused, goes_on}
use Rattle.xinu_model.specs.Memory.{ram_size}
use Rattle.xinu_model.specs.Messages.{held}
use Rattle.xinu_model.specs.Pools.Buffers.{BufferPool, pool_at, pool_bytes, buffers, is_in}
use Rattle.xinu_model.specs.Pools.Calls.{take_first, take_buffer, getbuf, go_on_getbuf}
use Rattle.xinu_model.specs.Semaphores.Waiting.{take_token, await}
use Rattle.xinu_model.specs.Sound.Pools.{IsSoundPool}
use Rattle.xinu_model.specs.Tables.{process_at, semaphore_at}
use Rattle.table_laws.proofs.Buffers.{buffer_between}
use Rattle.xinu_laws.proofs.Consoles.Kept.{HasSize}
use Rattle.xinu_laws.proofs.Pools.Calls.{HavePools}
use Rattle.xinu_model.proofs.WholeRam.{length-with_number}

-- a buffer of a pool that is in RAM is taken
taken_size : (free : List ℕ) (i : ℕ) (s : Xinu) (pool : BufferPool) → pool.base + pool_bytes pool.size pool.number ≤ ram_size
    → AllByRecursion (λ a. is_in a (buffers pool) ≡ true) free → HasSize s → HasSize (take_first free i s).call.state
taken_size [] i s pool within all z = z
taken_size (a ∷ free) i s pool within all z =
    let lies = buffer_between a pool all.0 in
    let low = lies.0 in
    let high = lies.1 in
    length-with_number s.memory (a - 4) 4 i (omega (arith, low, high, within, z)) ∙ z

-- Call 29.
pub getbuf_size : (i : ℕ) (s : Xinu) → HavePools s → HasSize s → HasSize (getbuf i s).call.state
getbuf_size i s k z =
    let pool = pool_at s.parts.pools i in
    cond_both (nat_lt i (length s.parts.pools)) (await pool.semaphore (GetBuf i) (take_buffer i) s) (refused s)
    (λ (h : CallResult). HasSize h.call.state)
    (λ b. by_tokens (semaphore_at s.tables pool.semaphore).tokens (k.each i (ltb-true i (length s.parts.pools) b))) (λ _. z)
  where
    by_tokens : (tokens : ℕ) → IsSoundPool s.tables i (pool_at s.parts.pools i)
        → HasSize (take_token tokens (pool_at s.parts.pools i).semaphore (GetBuf i) (take_buffer i) s).call.state
    by_tokens zero p = z
    by_tokens (suc n) p = taken_size (pool_at s.parts.pools i).free i _ (pool_at s.parts.pools i) p.within p.buffers z

-- The call goes on.
pub go_on_getbuf_size : (i : ℕ) (s : Xinu) → HavePools s → (process_at s.tables s.tables.current).rest ≡ GetBuf i → HasSize s
    → HasSize (go_on_getbuf i s).call.state
go_on_getbuf_size i s k e z =
    let pool = pool_at s.parts.pools i in
    let p = k.each i (k.made s.tables.current i e) in
    taken_size pool.free i (goes_on (held s) s) pool p.within p.buffers z
