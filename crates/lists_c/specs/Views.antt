-- The lists that a table holds.
use Rattle.std.specs.Prelude.{List}
use Rattle.queue_table.specs.Lists.{Entry, IsByKey, IsDelta, delays, list_at}
use Rattle.queue_table.specs.Table as table
use Rattle.lists_c.specs.Held.{Lists}
use Rattle.lists_c.specs.declared.lists.HeldLists.TheInside.{Inside}

-- the first three lists of a table; of the sleepers it holds the differences of their delays
abbrev pub seen_in : List (List Entry) → Lists
seen_in ls = record { ready = list_at ls 0; waiters = list_at ls 1; sleepers = delays (list_at ls 2) }

-- The ready list is kept by key, and the sleepers are a delta list.
pub record AreKept (ls : List (List Entry)) : Type 0 where
  pub ready : IsByKey (list_at ls 0)
  pub sleepers : IsDelta (list_at ls 2)

-- the same of the table
abbrev pub lists_of : Inside → Lists
lists_of t = seen_in (table.lists t.table)

abbrev pub IsKept : Inside → Type 0
IsKept t = AreKept (table.lists t.table)
