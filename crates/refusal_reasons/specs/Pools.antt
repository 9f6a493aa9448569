-- Why the calls on buffer pools are refused (book, chapter 10).
use Rattle.std.specs.Prelude.{ℕ, nat_le, nat_lt, Bool, false, not, ◌&&◌, List, [], ◌∷◌, ◌++◌, length, Option, None, Some}
use Rattle.std.specs.List.{list_any}
use Rattle.refusal_reasons.specs.Causes.{cause, CauseRow, row}
use Rattle.refusal_reasons.specs.declared.reasons.Cause.{Cause}
use Rattle.refusal_reasons.specs.Memory.{no_block}
use Rattle.refusal_reasons.specs.Semaphores.{no_free_semaphore}
use Rattle.refusal_reasons.specs.declared.reasons.Reason.TheVariants.{BufferTooSmall, BufferTooLarge, NoBuffers, TooManyBuffers, NoFreePool, MeetsPool, NoPool, BufferIsFree, NotHeld}
use Rattle.xinu_model.specs.Heap.Cells.{Grant, take_memory}
use Rattle.xinu_model.specs.Machine.{Xinu}
use Rattle.xinu_model.specs.Pools.Buffers.{BufferPool, most_pools, is_held, is_in, meets_pool, pool_bytes, whole_words}

-- how many bytes a pool of n buffers of this size takes
abbrev pub bytes_for : ℕ → ℕ → ℕ
bytes_for size n = pool_bytes (whole_words size) n

-- whether memory that the heap grants, so many bytes, is that of a pool
abbrev pub grant_meets : Option Grant → ℕ → List BufferPool → Bool
grant_meets None bytes pools = false
grant_meets (Some grant) bytes pools = meets_pool grant.address bytes pools

-- the bounds of a pool of n buffers of this size
abbrev pub size_causes : ℕ → ℕ → List Cause
size_causes size n =
    cause BufferTooSmall (not (nat_le 8 size))
    ∷ cause BufferTooLarge (not (nat_le size 8192))
    ∷ cause NoBuffers (not (nat_le 1 n))
    ∷ cause TooManyBuffers (not (nat_le n 2048))
    ∷ []

-- there is no room for so many bytes in a pool more
abbrev pub room_causes : ℕ → Xinu → List Cause
room_causes bytes s =
    cause NoFreePool (not (nat_lt (length s.parts.pools) most_pools))
    ∷ no_block bytes s
    ∷ no_free_semaphore s
    ∷ cause MeetsPool (grant_meets (take_memory bytes s.parts.heap) bytes s.parts.pools)
    ∷ []

-- `mkbufpool`: n buffers of this size
abbrev pub mkbufpool_causes : ℕ → ℕ → Xinu → List Cause
mkbufpool_causes size n s = size_causes size n ++ room_causes (bytes_for size n) s

-- `getbuf` from pool i
abbrev pub getbuf_causes : ℕ → Xinu → List Cause
getbuf_causes i s = cause NoPool (not (nat_lt i (length s.parts.pools))) ∷ []

-- whether the buffer at an address is held, or free
abbrev pub is_anywhere_held : ℕ → List BufferPool → Bool
is_anywhere_held a pools = list_any (is_held a) pools

abbrev pub is_anywhere_free : ℕ → List BufferPool → Bool
is_anywhere_free a pools = list_any (λ (pool : BufferPool). is_in a pool.free) pools

-- `freebuf` of what is at an address
abbrev pub freebuf_causes : ℕ → Xinu → List Cause
freebuf_causes a s =
    let pools = s.parts.pools in
    cause BufferIsFree (not (is_anywhere_held a pools) && is_anywhere_free a pools) ∷ cause NotHeld (not (is_anywhere_held a pools)) ∷ []

-- the calls on pools
abbrev pub pool_causes : List CauseRow
pool_causes =
    row 28 (λ a s. mkbufpool_causes (a 0) (a 1) s) ∷
    row 29 (λ a s. getbuf_causes (a 0) s) ∷
    row 30 (λ a s. freebuf_causes (a 0) s) ∷
    []
