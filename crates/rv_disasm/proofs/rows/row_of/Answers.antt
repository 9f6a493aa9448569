-- Each row is looked at.
use Rattle.std.proofs.Common.{◌<◌, ◌≤◌, ◌∙◌, [], sym, length, get_or, arith, rules}
use Rattle.rv_isa.specs.declared.rows.Row.{Row}
use Rattle.rv_isa.specs.declared.rows.Form.TheVariants.{U}
use Rattle.rv_isa.specs.Table.{seen}
use Rattle.rv_disasm.proofs.RowSearch.{row_from-start, row_from-next, row_from-here, row_from-end, rows_are, row_seen-short}
use Rattle.rv_disasm.proofs.rows.row_of.Goals as goal

pub loop-row-init : goal.loop-row-init
loop-row-init c = row_from-start c.table-rows.result c.args.word c.table-rows.ensures

pub loop-row-preserved : goal.loop-row-preserved
loop-row-preserved c =
    let within : c.loop-row.row-index < length c.table-rows.result = omega (arith, c.loop-row-test.true, rows_are c.table-rows.result c.table-rows.ensures) in
    let none : Row = record { name = record { ref_ptr = (0, 0); now = [] }; mask = 0; bits = 0; form = U } in
    c.loop-row.invariant
    ∙ row_from-next c.table-rows.result c.loop-row.row-index c.args.word none within (search rules)

pub returns-then-word-row : goal.returns-then-word-row
returns-then-word-row c =
    let within : c.loop-row.row-index < length c.table-rows.result = omega (arith, c.loop-row-test.true, rows_are c.table-rows.result c.table-rows.ensures) in
    let none : Row = record { name = record { ref_ptr = (0, 0); now = [] }; mask = 0; bits = 0; form = U } in
    let found = c.loop-row.invariant
    ∙ row_from-here c.table-rows.result c.loop-row.row-index c.args.word none within (search rules) in
    record { row = sym found; name = row_seen-short c.args.word (seen (get_or c.table-rows.result c.loop-row.row-index none)) found }

pub returns-clause-row : goal.returns-clause-row
returns-clause-row c =
    let all : length c.table-rows.result ≤ c.loop-row.row-index = omega (arith, rows_are c.table-rows.result c.table-rows.ensures) in
    sym (c.loop-row.invariant ∙ row_from-end c.table-rows.result c.loop-row.row-index c.args.word all)
