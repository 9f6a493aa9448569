-- The calls on the heap keep what holds of the tables.
use Rattle.std.proofs.Common.{ℕ, Option, Some, None}
use Rattle.xinu_model.specs.Heap.Cells as heap
use Rattle.xinu_model.specs.Heap.Cells.{Heap, Grant, Stack}
use Rattle.xinu_model.specs.Heap.Calls.{granted, stacked, given_back, getmem, freemem, getstk, freestk}
use Rattle.table_laws.proofs.Preserve.{Preserves, refused_preserves}

-- what was granted
granted_preserves : (found : Option Grant) → Preserves (granted found)
granted_preserves None = refused_preserves
granted_preserves (Some grant) = λ s c. record { tables = c.tables; harts = c.harts; released = tt }

-- the stack that was found
stacked_preserves : (found : Option Stack) → Preserves (stacked found)
stacked_preserves None = refused_preserves
stacked_preserves (Some stack) = λ s c. record { tables = c.tables; harts = c.harts; released = tt }

-- what was given back
given_back_preserves : (found : Option Heap) → Preserves (given_back found)
given_back_preserves None = refused_preserves
given_back_preserves (Some free) = λ s c. record { tables = c.tables; harts = c.harts; released = tt }

-- Call 10.
pub getmem_preserves : (n : ℕ) → Preserves (getmem n)
getmem_preserves n s c = granted_preserves (heap.take_memory n s.parts.heap) s c

-- Call 11.
pub freemem_preserves : (a n : ℕ) → Preserves (freemem a n)
freemem_preserves a n s c = given_back_preserves (heap.free_memory a n s.parts.heap) s c

-- Call 12.
pub getstk_preserves : (n : ℕ) → Preserves (getstk n)
getstk_preserves n s c = stacked_preserves (heap.take_stack n s.parts.heap) s c

-- Call 13.
pub freestk_preserves : (a n : ℕ) → Preserves (freestk a n)
freestk_preserves a n s c = given_back_preserves (heap.free_stack a n s.parts.heap) s c
