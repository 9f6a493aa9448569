-- Memory of a heap in RAM is in RAM.
use Rattle.std.proofs.Common.{◌≡◌, ℕ, ◌+◌, ◌*◌, ◌≤◌, length, Option, Some, None, arith}
use Rattle.std.specs.Prelude.{IfSome}
use Rattle.part_laws.proofs.HeapCells.Taken.{getmem_grants, room_in_cells}
use Rattle.xinu_model.specs.Heap.Cells.{Grant, Heap, take_memory}

pub granted_within : (n : ℕ) (h : Heap) (grant : Grant) → take_memory n h ≡ Some grant → h.low + 8 * length h.cells ≤ 1048576
    → grant.address + n ≤ 1048576
granted_within n h grant e within =
    let g = getmem_grants n h grant e in
    let cells = g.taken.before.within in
    let at = g.address in
    let room = room_in_cells n in
    omega (arith, cells, at, room, within)

pub place_within : (n : ℕ) (h u : Heap) (o : Option ℕ) → IfSome o (λ a. take_memory n h ≡ Some (record { address = a; heap = u }))
    → h.low + 8 * length h.cells ≤ 1048576 → IfSome o (λ a. a + n ≤ 1048576)
place_within n h u None grants within = tt
place_within n h u (Some a) grants within = granted_within n h (record { address = a; heap = u }) grants within
