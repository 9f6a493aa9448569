-- Buffer pools: buffers of one size that processes take and give back (book, chapter 10).
use Rattle.std.specs.Prelude.{ℕ, zero, suc, ◌+◌, ◌*◌, ◌/◌, ◌==◌, Bool, not, ◌&&◌, List, [], ◌∷◌, filter, length, Option, None, Some, if◌then◌else◌, slice_index_or}
use Rattle.std.specs.List.{list_any}
use Rattle.xinu_model.specs.Memory.{ranges_meet}

-- A pool: where its memory begins, the size of its buffers in bytes, how many it has, its semaphore, and the addresses of
-- the free ones, the one that was freed last first. Before each buffer lies a word for the pool's number.
pub record BufferPool : Type 0 where
  pub base : ℕ
  pub size : ℕ
  pub number : ℕ
  pub semaphore : ℕ
  pub free : List ℕ

-- what is read at a number that has no pool
abbrev pub no_pool : BufferPool
no_pool = record { base = 0; size = 0; number = 0; semaphore = 0; free = [] }

-- the most pools
abbrev pub most_pools : ℕ
most_pools = 20

-- the pool of a number
abbrev pub pool_at : List BufferPool → ℕ → BufferPool
pool_at pools i = slice_index_or pools i no_pool

-- n addresses, the first one at a and each one this far after the one before
abbrev pub addresses : ℕ → ℕ → ℕ → List ℕ
addresses a step zero = []
addresses a step (suc n) = a ∷ addresses (a + step) step n

-- the addresses of a pool's buffers
abbrev pub buffers : BufferPool → List ℕ
buffers pool = addresses (pool.base + 4) (pool.size + 4) pool.number

-- how many bytes a pool takes
abbrev pub pool_bytes : ℕ → ℕ → ℕ
pool_bytes size number = number * (size + 4)

-- a size as a pool has it: a multiple of 4
abbrev pub whole_words : ℕ → ℕ
whole_words size = 4 * ((size + 3) / 4)

-- a new pool, all of whose buffers are free, the lowest first
abbrev pub new_pool : ℕ → ℕ → ℕ → ℕ → BufferPool
new_pool base size number semaphore = record {
  base = base;
  size = size;
  number = number;
  semaphore = semaphore;
  free = addresses (base + 4) (size + 4) number;
}

-- whether a range of addresses meets that of a pool
abbrev pub meets_pool : ℕ → ℕ → List BufferPool → Bool
meets_pool base bytes pools = list_any (λ pool. ranges_meet base bytes pool.base (pool_bytes pool.size pool.number)) pools

-- whether a number is in a list
abbrev pub is_in : ℕ → List ℕ → Bool
is_in a l = list_any (λ b. a == b) l

-- whether an address is that of a buffer that a process holds: it is the pool's, and isn't free
abbrev pub is_held : ℕ → BufferPool → Bool
is_held a pool = is_in a (buffers pool) && not (is_in a pool.free)

-- the number of the pool of which an address is a held buffer; i is the number of the first pool of the list
abbrev pub holder_from : ℕ → ℕ → List BufferPool → Option ℕ
holder_from a i [] = None
holder_from a i (pool ∷ pools) = if is_held a pool then Some i else holder_from a (i + 1) pools

abbrev pub holder : ℕ → List BufferPool → Option ℕ
holder a pools = holder_from a 0 pools

-- how many buffers of a pool are held
abbrev pub held_in : BufferPool → ℕ
held_in pool = length (filter (λ a. not (is_in a pool.free)) (buffers pool))

-- a pool with a buffer put back
abbrev pub with_free : ℕ → BufferPool → BufferPool
with_free a pool = record pool { free = a ∷ pool.free }
