-- What holds of the buffer pools, inside an event and between two.
use Rattle.std.specs.Prelude.{◌≡◌, ℕ, ◌+◌, ◌<◌, ◌≤◌, ◌==◌, Bool, false, true, not, ◌&&◌, List, length, Some}
use Rattle.std.specs.List.{AllByRecursion}
use Rattle.xinu_base.specs.declared.processes.Process.{Process}
use Rattle.xinu_base.specs.declared.processes.Rest.{Rest}
use Rattle.xinu_base.specs.declared.processes.Rest.TheVariants.{GetBuf}
use Rattle.xinu_base.specs.declared.processes.State.{State}
use Rattle.xinu_base.specs.declared.processes.State.TheVariants.{Waiting}
use Rattle.xinu_base.specs.declared.semaphores.Owner.TheVariants as owner
use Rattle.xinu_model.specs.Memory.{ram_size, ranges_meet}
use Rattle.xinu_model.specs.Pools.Buffers.{BufferPool, most_pools, pool_at, pool_bytes, buffers, is_in, held_in}
use Rattle.xinu_model.specs.Sound.Tables.{times, count_in}
use Rattle.xinu_model.specs.Tables.{Tables, process_at, semaphore_at}

-- whether a process of this state waits on a semaphore
abbrev pub is_waiting : State → Bool
is_waiting Waiting = true
is_waiting _ = false

-- whether what is left of a call is to take a buffer of pool i
abbrev pub asks_pool : ℕ → Rest → Bool
asks_pool i (GetBuf j) = j == i
asks_pool i _ = false

-- whether a process was released from the semaphore of pool i and hasn't taken its buffer yet
abbrev pub is_released_to_pool : ℕ → Process → Bool
is_released_to_pool i x = not (is_waiting x.state) && asks_pool i x.rest

-- What holds of pool i: its semaphore is its own; it lies in RAM; its free buffers are distinct buffers of it, and with the held ones they
-- are all; there is one for each token and for each process that was released to take one.
pub record IsSoundPool (t : Tables) (i : ℕ) (pool : BufferPool) : Type 0 where
  pub owner : (semaphore_at t pool.semaphore).owner ≡ Some (owner.Pool i)
  pub within : pool.base + pool_bytes pool.size pool.number ≤ ram_size
  pub buffers : AllByRecursion (λ a. is_in a (buffers pool) ≡ true) pool.free
  pub distinct : (a : ℕ) → count_in a pool.free ≤ 1
  pub number : length pool.free + held_in pool ≡ pool.number
  pub enough : (semaphore_at t pool.semaphore).tokens + times (is_released_to_pool i) t.processes ≤ length pool.free

-- What holds of all pools: there are at most twenty; a semaphore that belongs to a pool is the one that the pool names; who is to take a
-- buffer names a pool that is made; the ranges of no two pools meet.
pub record ArePools (t : Tables) (pools : List BufferPool) : Type 0 where
  pub few : length pools ≤ most_pools
  pub each : (i : ℕ) → i < length pools → IsSoundPool t i (pool_at pools i)
  pub owned : (sem i : ℕ) → (semaphore_at t sem).owner ≡ Some (owner.Pool i) → (i < length pools) × ((pool_at pools i).semaphore ≡ sem)
  pub made : (p i : ℕ) → (process_at t p).rest ≡ GetBuf i → i < length pools
  pub apart : (i j : ℕ) → i < j → j < length pools → ranges_meet (pool_at pools i).base (pool_bytes (pool_at pools i).size (pool_at pools i).number) (pool_at pools j).base (pool_bytes (pool_at pools j).size (pool_at pools j).number) ≡ false
