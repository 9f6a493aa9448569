-- What the calls on the heap touch.
use Rattle.std.proofs.Common.{◌≡◌, ℕ, Option, Some, None, refl}
use Rattle.xinu_model.specs.Footprints.{on_heap}
use Rattle.xinu_model.specs.Heap.Cells as heap
use Rattle.xinu_model.specs.Heap.Cells.{Heap, Grant, Stack}
use Rattle.xinu_model.specs.Machine.{Xinu}
use Rattle.xinu_model.specs.Heap.Calls.{granted, stacked, given_back, getmem, freemem, getstk, freestk}
use Rattle.xinu_laws.specs.Touches.{reach, Touches}
use Rattle.part_laws.specs.FreeCells.{HasSameExtent}
use Rattle.part_laws.proofs.HeapCells.Taken.{getmem_grants, getstk_finds}
use Rattle.part_laws.proofs.HeapCells.Extent.{extent_marked, extent_freemem, extent_freestk}
use Rattle.xinu_laws.proofs.Touches.{StaysIn, parts_heap, touches_refl, touches_parts}

-- another heap of the same extent
heap_touches : (s : Xinu) (h : Heap) → HasSameExtent s.parts.heap h
    → Touches (reach on_heap) s (record s { parts = record s.parts { heap = h } })
heap_touches s h e = touches_parts s (record s { parts = record s.parts { heap = h } }) refl refl (λ _. refl) (parts_heap refl s.parts h e)

-- what is granted, found or given back
granted_touches : (n : ℕ) (found : Option Grant) (s : Xinu) → heap.take_memory n s.parts.heap ≡ found
    → Touches (reach on_heap) s (granted found s).call.state
granted_touches n None s e = touches_refl s
granted_touches n (Some grant) s e = heap_touches s grant.heap (let g = getmem_grants n s.parts.heap grant e in extent_marked g.taken)

stacked_touches : (n : ℕ) (found : Option Stack) (s : Xinu) → heap.take_stack n s.parts.heap ≡ found
    → Touches (reach on_heap) s (stacked found s).call.state
stacked_touches n None s e = touches_refl s
stacked_touches n (Some stack) s e = heap_touches s stack.heap (let g = getstk_finds n s.parts.heap stack e in extent_marked g.taken)

given_back_touches : (found : Option Heap) (s : Xinu) → ((h : Heap) → found ≡ Some h → HasSameExtent s.parts.heap h)
    → Touches (reach on_heap) s (given_back found s).call.state
given_back_touches None s each = touches_refl s
given_back_touches (Some h) s each = heap_touches s h (each h refl)

-- Call 10.
pub getmem_touches : (n : ℕ) → StaysIn on_heap (getmem n)
getmem_touches n s i = granted_touches n (heap.take_memory n s.parts.heap) s refl

-- Call 11.
pub freemem_touches : (a n : ℕ) → StaysIn on_heap (freemem a n)
freemem_touches a n s i = given_back_touches (heap.free_memory a n s.parts.heap) s (extent_freemem a n s.parts.heap)

-- Call 12.
pub getstk_touches : (n : ℕ) → StaysIn on_heap (getstk n)
getstk_touches n s i = stacked_touches n (heap.take_stack n s.parts.heap) s refl

-- Call 13.
pub freestk_touches : (a n : ℕ) → StaysIn on_heap (freestk a n)
freestk_touches a n s i = given_back_touches (heap.free_stack a n s.parts.heap) s (extent_freestk a n s.parts.heap)
