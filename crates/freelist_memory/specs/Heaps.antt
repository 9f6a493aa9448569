-- What a heap keeps true.
use Rattle.std.specs.Prelude.{◌≡◌, ◌+◌, ◌*◌, ◌%◌, ◌≤◌, length}
use Rattle.freelist_memory.specs.declared.heap.Heap.TheInside.{Inside}

-- The heap begins at a multiple of 8 and lies in RAM.
pub record IsHeap (h : Inside) : Type 0 where
  pub aligned : h.low % 8 ≡ 0
  pub in_ram : h.low + 8 * length h.cells ≤ 1048576
