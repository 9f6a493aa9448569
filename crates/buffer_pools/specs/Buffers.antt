-- What a pool keeps true: where it is, and which of its buffers are free.
use Rattle.std.specs.Prelude.{◌≡◌, ℕ, ◌+◌, ◌%◌, ◌≤◌, true, length, reverse, vec_capacity}
use Rattle.std.specs.List.{AllByRecursion}
use Rattle.buffer_pools.specs.declared.pool.Pool.TheInside.{Inside}
use Rattle.xinu_model.specs.Pools.Buffers.{BufferPool, buffers, held_in, is_in, pool_bytes}
use Rattle.xinu_model.specs.Sound.Tables.{count_in}

-- the pool that the fields stand for, whose list of free buffers begins with the one that was freed last
abbrev pub pool_of : Inside → BufferPool
pool_of p = record { base = p.base; size = p.size; number = p.number; semaphore = p.semaphore; free = reverse p.free.items }

-- A pool is in RAM, in whole words, and isn't larger than a pool may be.
pub record IsPlaced (pool : BufferPool) : Type 0 where
  pub size : pool.size ≤ 8192
  pub number : pool.number ≤ 2048
  pub in_ram : pool.base + pool_bytes pool.size pool.number ≤ 1048576
  pub base_aligned : pool.base % 4 ≡ 0
  pub size_aligned : pool.size % 4 ≡ 0

-- The free buffers are distinct buffers of the pool, and with the held ones they are all.
pub record HasBuffers (pool : BufferPool) : Type 0 where
  pub buffers : AllByRecursion (λ a. is_in a (buffers pool) ≡ true) pool.free
  pub distinct : (a : ℕ) → count_in a pool.free ≤ 1
  pub number : length pool.free + held_in pool ≡ pool.number

-- There is room for as many free buffers as a pool may have.
pub record IsPool (p : Inside) : Type 0 where
  pub room : 2048 ≤ vec_capacity p.free
  pub placed : IsPlaced (pool_of p)
  pub buffers : HasBuffers (pool_of p)
