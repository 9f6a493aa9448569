-- The lists of a table, as its entries hold them.
use Rattle.std.specs.Prelude.{ℕ, List}
use Rattle.queue_table.specs.declared.table.QueueTable.{QueueTable}
use Rattle.queue_table.specs.Lists.{Entry}
use Rattle.queue_table.specs.Entries.{lists_of}

-- the list of each queue of the table, queue 0 first
unfoldable pub lists : {P Q : ℕ} → QueueTable P Q → List (List Entry)
lists {P} {Q} t = lists_of P Q t.entries.items
