use Rattle.std.proofs.Common.{◌≤◌, length, sym, subst, arith}
use Rattle.std.proofs.lemmas.List.Elements.{All-get_or}
use Rattle.race_tables.specs.Rows.{Row}
use Rattle.races_command.proofs.PrintedRows.{rows_end, rows_step}
use Rattle.races_command.proofs.showing.push_rows.Goals as goal

pub push_row-requires-clause-few : goal.push_row-requires-clause-few
push_row-requires-clause-few c =
    subst (λ (r : Row). length r.first ≤ 3) (sym c.index-table-i.is)
    (All-get_or (λ (r : Row). length r.first ≤ 3) c.args.table.now c.loop-i.i c.index-table-i.result (omega arith) c.requires.few)

pub loop-i-preserved : goal.loop-i-preserved
loop-i-preserved c =
    rows_step c.args.base.now _ _ _ c.args.table.now c.loop-i.i c.index-table-i.result c.loop-i.invariant (omega arith) c.index-table-i.is c.in_ok-push_row.ensures.row

pub returns : goal.returns
returns c = record { rows = rows_end c.args.base.now _ _ c.args.table.now c.loop-i.i c.loop-i.invariant (omega arith) }
