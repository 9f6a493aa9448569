-- The line is among those that are left.
use Rattle.std.proofs.Common.{◌≡◌, length}
use Rattle.text_lines.specs.Lines.{lines_of}
use Rattle.rv_asm.specs.Assembly.{lines_in}
use Rattle.rv_asm.specs.CodeLabels.{found}
use Rattle.rv_asm.specs.CodeLayouts.{seen_layout}
use Rattle.rv_asm.specs.Layouts.{start}
use Rattle.fault_words.specs.Reasons.{cause_after}
use Rattle.fault_words.proofs.lines.cause_after.Given as goal

abbrev pub invariant-loop-rest : goal.invariant-loop-rest
invariant-loop-rest l =
    cause_after l.count l.kind (lines_in l.text) (found l.all.labels) (lines_of l.text) start
    ≡ cause_after l.left l.kind (lines_in l.text) (found l.all.labels) (lines_of l.rest) (seen_layout l.layout)

abbrev pub decreases-loop-rest : goal.decreases-loop-rest
decreases-loop-rest l = length l.rest
