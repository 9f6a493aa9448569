-- The pools that are made, by number.
use Rattle.std.specs.Prelude.{◌≡◌, ℕ, ◌≤◌, List, length, slice_set, take, Option, Some, None, if◌then◌else◌, nat_lt}
use Rattle.buffer_pools.specs.declared.pools.Pools.TheInside.{Inside}
use Rattle.xinu_model.specs.Pools.Buffers.{BufferPool, most_pools, pool_at, with_free}

-- the pools that are made
abbrev pub made_pools : Inside → List BufferPool
made_pools p = take p.made p.pools.items

-- There is an entry for each pool that can be made.
pub record HasPlaces (p : Inside) : Type 0 where
  pub entries : length p.pools.items ≡ most_pools
  pub made : p.made ≤ most_pools

-- the number of the next pool, if not all are made
abbrev pub next_number : List BufferPool → Option ℕ
next_number pools = if nat_lt (length pools) most_pools then Some (length pools) else None

-- the pools after the buffer at an address was given back to the pool that was found for it
abbrev pub after_free : Option ℕ → ℕ → List BufferPool → List BufferPool
after_free None a pools = pools
after_free (Some i) a pools = slice_set pools i (with_free a (pool_at pools i))
