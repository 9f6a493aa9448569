-- What a heap answers to calls, one after another.
use Rattle.std.specs.Prelude.{ℕ, ◌-◌, ◌/◌, ◌%◌, ◌==◌, nat_le, Bool, true, ◌&&◌, if◌then◌else◌, List, [], ◌∷◌, Option, None, Some, replicate}
use Rattle.heap_c.specs.declared.calls.HeapCall.{HeapCall}
use Rattle.xinu_model.specs.Heap.Cells.{Grant, Heap, Stack, free_memory, free_stack, take_memory, take_stack}

-- An answer, and the heap after it.
pub record Answered : Type 0 where
  pub answer : ℕ
  pub heap : Heap

-- a call that is refused
abbrev refused : Heap → Answered
refused h = record { answer = 4294967295; heap = h }

-- memory is granted, or refused
abbrev granted : Heap → Option Grant → Answered
granted h None = refused h
granted h (Some g) = record { answer = g.address; heap = g.heap }

-- a stack is granted, or refused
abbrev stacked : Heap → Option Stack → Answered
stacked h None = refused h
stacked h (Some s) = record { answer = s.top; heap = s.heap }

-- memory is taken back, or refused
abbrev given : Heap → Option Heap → Answered
given h None = refused h
given h (Some after) = record { answer = 0; heap = after }

-- the answer to a call
abbrev pub answered : Heap → HeapCall → Answered
answered h c =
    if c.kind == 0 then granted h (take_memory c.bytes h)
    else if c.kind == 1 then given h (free_memory c.address c.bytes h)
    else if c.kind == 2 then stacked h (take_stack c.bytes h)
    else if c.kind == 3 then given h (free_stack c.address c.bytes h)
    else refused h

-- the answers to calls, one after another
abbrev pub answers_of : Heap → List HeapCall → List ℕ
answers_of h [] = []
answers_of h (c ∷ calls) = (answered h c).answer ∷ answers_of (answered h c).heap calls

-- a heap of which all cells are free
abbrev pub whole : ℕ → ℕ → Heap
whole low high = record { low = low; cells = replicate ((high - low) / 8) true }

-- whether there is a heap from low up to high, and an answer for each of the calls
abbrev pub is_heap : ℕ → ℕ → ℕ → ℕ → Bool
is_heap low high calls answers =
    (low % 8 == 0) && (high % 8 == 0) && nat_le low high && nat_le high 1048576 && (calls == answers)
