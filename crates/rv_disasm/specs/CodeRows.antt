-- The rows of the code.
use Rattle.std.specs.Prelude.{Option, Some, None}
use Rattle.rv_isa.specs.Table as table
use Rattle.rv_isa.specs.Table.{Seen}
use Rattle.rv_isa.specs.declared.rows.Row.{Row}

-- the row that the code has found
abbrev pub seen_row : Option Row → Option Seen
seen_row None = None
seen_row (Some row) = Some (table.seen row)
