-- Buffer pools as processes call them (book, chapter 10).
use Rattle.std.specs.Prelude.{ℕ, ◌-◌, nat_le, nat_lt, Bool, if◌then◌else◌, ◌&&◌, List, [], ◌∷◌, ◌++◌, length, slice_set, Option, Some, None, pos}
use Rattle.xinu_base.specs.Constants.{OK}
use Rattle.xinu_base.specs.declared.processes.Rest.TheVariants.{GetBuf}
use Rattle.xinu_base.specs.declared.semaphores.Owner.TheVariants.{Pool}
use Rattle.xinu_model.specs.Heap.Cells.{Grant, take_memory}
use Rattle.xinu_model.specs.Machine.{Xinu, CallState, CallResult, start, returns, refused, goes_on}
use Rattle.xinu_model.specs.Memory.{with_number}
use Rattle.xinu_model.specs.Messages.{held}
use Rattle.xinu_model.specs.Pools.Buffers.{most_pools, pool_at, pool_bytes, whole_words, new_pool, meets_pool, holder, with_free}
use Rattle.xinu_model.specs.Semaphores.Counts.{free_semaphore, make_semaphore}
use Rattle.xinu_model.specs.Semaphores.Waiting.{signalled, await}
use Rattle.xinu_model.specs.Footprints.{on_buffers, on_pools, on_new_pool}
use Rattle.xinu_model.specs.Rows.{Status, Address, CallRow, row}

-- a pool with this memory and this semaphore
abbrev pub with_pool : Grant → ℕ → ℕ → ℕ → Xinu → CallResult
with_pool grant sem size n s =
    let i = length s.parts.pools in
    returns (start (record s {
      tables = make_semaphore sem (Pool i) n s.tables;
      parts = record s.parts { heap = grant.heap; pools = s.parts.pools ++ new_pool grant.address size n sem ∷ [] };
    })) (pos i)

-- a pool, if memory that meets no other pool and a semaphore are found
abbrev pub made_pool : Option Grant → Option ℕ → ℕ → ℕ → Xinu → CallResult
made_pool (Some grant) (Some sem) size n s =
    if meets_pool grant.address (pool_bytes size n) s.parts.pools then refused s else with_pool grant sem size n s
made_pool (Some grant) None size n s = refused s
made_pool None sem size n s = refused s

-- whether a pool may have n buffers of this size
abbrev pub is_pool_size : ℕ → ℕ → Bool
is_pool_size size n = (nat_le 8 size && nat_le size 8192) && (nat_le 1 n && nat_le n 2048)

-- Call 28: a pool of n buffers of this size, rounded up to whole words. Refused if the size or n is out of bounds, all pools are made, or no
-- memory that meets no other pool or no semaphore is left.
abbrev pub mkbufpool : ℕ → ℕ → Xinu → CallResult
mkbufpool size n s =
    if is_pool_size size n && nat_lt (length s.parts.pools) most_pools
    then made_pool (take_memory (pool_bytes (whole_words size) n) s.parts.heap) (free_semaphore s.tables) (whole_words size) n s
    else refused s

-- the caller takes the first of these free buffers of pool i, before which the pool's number is written
abbrev pub take_first : List ℕ → ℕ → Xinu → CallResult
take_first [] i s = refused s
take_first (a ∷ free) i s =
    returns (start (record s {
      memory = with_number s.memory (a - 4) 4 i;
      parts = record s.parts { pools = slice_set s.parts.pools i (record (pool_at s.parts.pools i) { free = free }) };
    })) (pos a)

abbrev pub take_buffer : ℕ → Xinu → CallResult
take_buffer i s = take_first (pool_at s.parts.pools i).free i s

-- call 29: a buffer of pool i, for which the caller waits; refused if the pool isn't made
abbrev pub getbuf : ℕ → Xinu → CallResult
getbuf i s =
    if nat_lt i (length s.parts.pools) then await (pool_at s.parts.pools i).semaphore (GetBuf i) (take_buffer i) s else refused s

-- the call goes on
abbrev pub go_on_getbuf : ℕ → Xinu → CallResult
go_on_getbuf i s = take_buffer i (goes_on (held s) s)

-- the buffer at an address is free again, and the pool is signalled
abbrev pub put_back : ℕ → ℕ → CallState → CallState
put_back a i d =
    let pool = pool_at d.state.parts.pools i in
    signalled pool.semaphore (record d { state = record d.state { parts = record d.state.parts { pools = slice_set d.state.parts.pools i (with_free a pool) } } })

-- a buffer is given back to the pool that has it
abbrev pub given_to : Option ℕ → ℕ → CallState → CallState
given_to None a d = d
given_to (Some i) a d = put_back a i d

-- what is held at an address is given back; if it is no held buffer nothing is done
abbrev pub freed_buffer : ℕ → CallState → CallState
freed_buffer a d = given_to (holder a d.state.parts.pools) a d

-- a buffer is given back, if a pool that has it is found
abbrev pub freed_by : Option ℕ → ℕ → Xinu → CallResult
freed_by None a s = refused s
freed_by (Some i) a s = returns (put_back a i (start s)) OK

-- call 30: the buffer at an address is given back; refused if none is held there
abbrev pub freebuf : ℕ → Xinu → CallResult
freebuf a s = freed_by (holder a s.parts.pools) a s

-- the calls on pools
abbrev pub pool_calls : List CallRow
pool_calls =
    row 28 on_new_pool Status (λ a s. mkbufpool (a 0) (a 1) s) ∷
    row 29 on_buffers Address (λ a s. getbuf (a 0) s) ∷
    row 30 on_pools Status (λ a s. freebuf (a 0) s) ∷
    []
