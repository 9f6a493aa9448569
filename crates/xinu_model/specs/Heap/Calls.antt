-- The heap as processes call it (book, chapter 9).
use Rattle.std.specs.Prelude.{ℕ, Option, Some, None, pos, List, [], ◌∷◌}
use Rattle.xinu_base.specs.Constants.{OK}
use Rattle.xinu_model.specs.Heap.Cells as heap
use Rattle.xinu_model.specs.Heap.Cells.{Heap, Grant, Stack}
use Rattle.xinu_model.specs.Machine.{Xinu, CallResult, start, returns, refused}
use Rattle.xinu_model.specs.Footprints.{on_heap}
use Rattle.xinu_model.specs.Rows.{Status, Address, CallRow, row}

-- what was granted is answered
abbrev pub granted : Option Grant → Xinu → CallResult
granted None s = refused s
granted (Some grant) s = returns (start (record s { parts = record s.parts { heap = grant.heap } })) (pos grant.address)

-- the stack that was found is answered
abbrev pub stacked : Option Stack → Xinu → CallResult
stacked None s = refused s
stacked (Some stack) s = returns (start (record s { parts = record s.parts { heap = stack.heap } })) (pos stack.top)

-- what was given back is free
abbrev pub given_back : Option Heap → Xinu → CallResult
given_back None s = refused s
given_back (Some free) s = returns (start (record s { parts = record s.parts { heap = free } })) OK

-- call 10: n bytes of the lowest free cells; refused if n is 0 or no such cells are free
abbrev pub getmem : ℕ → Xinu → CallResult
getmem n s = granted (heap.take_memory n s.parts.heap) s

-- call 11: n bytes from an address on are given back; refused if they aren't whole cells of the heap that are taken
abbrev pub freemem : ℕ → ℕ → Xinu → CallResult
freemem a n s = given_back (heap.free_memory a n s.parts.heap) s

-- call 12: a stack of n bytes of the highest free cells; refused as call 10
abbrev pub getstk : ℕ → Xinu → CallResult
getstk n s = stacked (heap.take_stack n s.parts.heap) s

-- call 13: a stack of n bytes whose highest word is at an address is given back; refused as call 11
abbrev pub freestk : ℕ → ℕ → Xinu → CallResult
freestk a n s = given_back (heap.free_stack a n s.parts.heap) s

-- the calls on the heap
abbrev pub memory_calls : List CallRow
memory_calls =
    row 10 on_heap Address (λ a s. getmem (a 0) s) ∷
    row 11 on_heap Status (λ a s. freemem (a 0) (a 1) s) ∷
    row 12 on_heap Address (λ a s. getstk (a 0) s) ∷
    row 13 on_heap Status (λ a s. freestk (a 0) (a 1) s) ∷
    []
