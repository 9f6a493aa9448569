-- The place counted from the rows that were looked at.
use Rattle.std.proofs.Common.{◌≡◌, ◌+◌, drop}
use Rattle.race_tables.specs.Rows.{place_of}
use Rattle.race_tables.proofs.rows.place_of.Given as goal

abbrev pub invariant-loop-i : goal.invariant-loop-i
invariant-loop-i l = place_of l.outcome l.table ≡ l.i + place_of l.outcome (drop l.i l.table)
