-- Who has which address: no two of the free cells of the heap, the pools and the stacks of living processes share one.
use Rattle.std.specs.Prelude.{◌≡◌, ◌⊎◌, ℕ, ◌+◌, ◌*◌, ◌%◌, ◌≤◌, nat_le, nat_lt, Bool, ◌&&◌, cond, length}
use Rattle.xinu_base.specs.declared.processes.Process.{Process}
use Rattle.part_laws.specs.FreeCells.{is_in_free}
use Rattle.xinu_model.specs.Heap.Cells.{Heap}
use Rattle.xinu_model.specs.Machine.{Xinu}
use Rattle.xinu_model.specs.Pools.Buffers.{BufferPool, pool_bytes}
use Rattle.xinu_model.specs.Sound.Tables.{times}
use Rattle.xinu_model.specs.Tables.{process_at}

-- whether an address lies in the range of a pool
abbrev pub is_in_pool : ℕ → BufferPool → Bool
is_in_pool a pool = nat_le pool.base a && nat_lt a (pool.base + pool_bytes pool.size pool.number)

-- whether an address lies in the stack of a process
abbrev pub is_in_stack : ℕ → Process → Bool
is_in_stack a x = nat_lt a (x.stack + 4) && nat_le (x.stack + 4) (a + x.stack_size)

-- how many pools and stacks have an address
abbrev pub holders : Xinu → ℕ → ℕ
holders s a = times (is_in_pool a) s.parts.pools + times (is_in_stack a) s.tables.processes

-- how many of the free cells, the pools and the stacks have an address
abbrev pub claims : Xinu → ℕ → ℕ
claims s a = cond (is_in_free a s.parts.heap) 1 0 + holders s a

-- the stack of a process is empty, or whole cells of the heap
abbrev pub HasStackIn : Heap → Process → Type 0
HasStackIn h x =
    (x.stack_size ≡ 0) ⊎ ((k : ℕ) × (n : ℕ) × (x.stack + 4 ≡ h.low + 8 * (k + n)) × (x.stack_size ≡ 8 * n) × (k + n ≤ length h.cells))

-- Each stack is empty or whole cells of the heap, and no address is claimed twice.
pub record IsApart (s : Xinu) : Type 0 where
  pub low : s.parts.heap.low % 8 ≡ 0
  pub stacks : (p : ℕ) → HasStackIn s.parts.heap (process_at s.tables p)
  pub claims : (a : ℕ) → claims s a ≤ 1
