-- What a pool keeps true.
use Rattle.uses_heap.specs.Pools.{AreRecords}
use Rattle.uses_heap.specs.declared.pool.Pool.TheInside.{Inside}

-- The records on the list are taken from the heap, and no two share a byte.
abbrev pub IsPool : Inside → Type 0
IsPool p = AreRecords p.heap p.taken.items
