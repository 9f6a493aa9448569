-- The rows of the lines so far, and those of the lines that are left.
use Rattle.std.proofs.Common.{◌≡◌, ◌+◌, ◌++◌, ◌≤◌, length}
use Rattle.std.specs.List.{flat_map}
use Rattle.rv_asm.specs.Assembly.{lines_in}
use Rattle.rv_asm.specs.CodeLabels.{found}
use Rattle.rv_asm.specs.CodeLayouts.{seen_layout}
use Rattle.rv_asm.specs.Layouts.{start}
use Rattle.rv_asm.specs.Listings.{row_text, rows}
use Rattle.rv_asm.proofs.listing.list_lines.Given as goal

abbrev pub invariant-loop-rest : goal.invariant-loop-rest
invariant-loop-rest l = record {
  rows : flat_map row_text (rows (found l.all.labels) 1 (lines_in l.text) start)
      ≡ l.rows.items ++ flat_map row_text (rows (found l.all.labels) (l.number + 1) (lines_in l.rest) (seen_layout l.layout));
  lines : l.number + length l.rest ≤ length l.text;
}

abbrev pub decreases-loop-rest : goal.decreases-loop-rest
decreases-loop-rest l = length l.rest
