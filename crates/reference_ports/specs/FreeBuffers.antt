-- What is known of a pool's free buffers as one is taken.
use Rattle.std.specs.Prelude.{◌≡◌, true}
use Rattle.std.specs.List.{AllByRecursion}
use Rattle.xinu_model.specs.Pools.Buffers.{BufferPool, buffers, is_in}

-- Each free buffer of a pool is one of its own.
pub record HasOwnFree (pool : BufferPool) : Type 0 where
  pub own : AllByRecursion (λ a. is_in a (buffers pool) ≡ true) pool.free
