-- One more line.
use Rattle.std.proofs.Common.{◌≡◌, ◌+◌, ◌∷◌, arith}
use Rattle.std.specs.List.{flat_map}
use Rattle.asm_syntax.specs.Statements.{line_of}
use Rattle.rv_asm.specs.Assembly.{lines_in}
use Rattle.rv_asm.specs.CodeLabels.{found}
use Rattle.rv_asm.specs.CodeLayouts.{seen_layout}
use Rattle.rv_asm.specs.Layouts.{start}
use Rattle.rv_asm.specs.Listings.{row_text, rows}
use Rattle.rv_asm.proofs.ListingLemmas.{rows-next}
use Rattle.rv_asm.proofs.PassLemmas.{lines_in-cons}
use Rattle.rv_asm.proofs.listing.list_lines.Goals as goal

pub loop-rest-preserved : goal.loop-rest-preserved
loop-rest-preserved c =
    let is : lines_in c.loop-rest.rest.now ≡ line_of c.first_line.result.0.now ∷ lines_in c.first_line.result.1.now =
    lines_in-cons c.loop-rest.rest.now c.first_line.result.0.now c.first_line.result.1.now c.first_line.ensures.lines in
    record {
      rows =
          rows-next (flat_map row_text (rows (found c.args.all.now.labels) 1 (lines_in c.args.text.now) start))
          (found c.args.all.now.labels) (c.loop-rest.number + 1) (lines_in c.loop-rest.rest.now)
          (lines_in c.first_line.result.1.now) (line_of c.first_line.result.0.now) (seen_layout c.loop-rest.layout)
          (seen_layout c.list_line.new.layout) c.loop-rest.rows.items c.list_line.new.rows.items c.loop-rest.invariant.rows is
          c.in_ok-list_line.ensures.layout c.in_ok-list_line.ensures.row;
      lines = omega (arith, c.loop-rest.invariant.lines, c.first_line.ensures.shorter);
    }
