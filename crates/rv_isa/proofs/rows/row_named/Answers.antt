-- Each row is looked at.
use Rattle.std.proofs.Common.{◌<◌, ◌∙◌, [], sym, length, get_or, arith}
use Rattle.rv_isa.specs.declared.rows.Row.{Row}
use Rattle.rv_isa.specs.declared.rows.Form.TheVariants.{U}
use Rattle.rv_isa.proofs.RowNames.{row_named-start, row_among-next, row_among-here, rows_are, row_named-room}
use Rattle.rv_isa.proofs.rows.row_named.Goals as goal

pub loop-row-init : goal.loop-row-init
loop-row-init c = row_named-start c.table-rows.result c.args.name.now c.table-rows.ensures

pub loop-row-preserved : goal.loop-row-preserved
loop-row-preserved c =
    let within : c.loop-row.row-index < length c.table-rows.result = omega (arith, c.loop-row-test.true, rows_are c.table-rows.result c.table-rows.ensures) in
    c.loop-row.invariant
    ∙ row_among-next c.table-rows.result c.loop-row.row-index c.args.name.now _ within (rw c.as_bytes.ensures.value at (sym c.eq.ensures ∙ c.if-eq.false))

pub returns-then-eq : goal.returns-then-eq
returns-then-eq c =
    let within : c.loop-row.row-index < length c.table-rows.result = omega (arith, c.loop-row-test.true, rows_are c.table-rows.result c.table-rows.ensures) in
    let none : Row = record { name = record { ref_ptr = (0, 0); now = [] }; mask = 0; bits = 0; form = U } in
    let found = c.loop-row.invariant
    ∙ row_among-here c.table-rows.result c.loop-row.row-index c.args.name.now none within (rw c.as_bytes.ensures.value at (sym c.eq.ensures ∙ c.if-eq.true)) in
    record { row = found; bits = row_named-room c.args.name.now (get_or c.table-rows.result c.loop-row.row-index none) found }
