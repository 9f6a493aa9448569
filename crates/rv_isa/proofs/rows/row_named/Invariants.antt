-- The name is sought in the rows that are left.
use Rattle.std.proofs.Common.{◌≡◌, drop, map}
use Rattle.rv_isa.specs.Table.{seen, row_among, row_named}
use Rattle.rv_isa.proofs.rows.row_named.Given as goal

abbrev pub invariant-loop-row : goal.invariant-loop-row
invariant-loop-row l = row_named l.name ≡ row_among (map seen (drop l.row-index l.row-items)) l.name
