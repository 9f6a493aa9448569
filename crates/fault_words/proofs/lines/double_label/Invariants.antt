-- The labels that are left have the same first one that is there twice.
use Rattle.std.proofs.Common.{◌≡◌, length}
use Rattle.asm_syntax.specs.Statements.{line_of}
use Rattle.rv_asm.specs.CodeLabels.{found}
use Rattle.fault_words.specs.Reasons.{first_double}
use Rattle.fault_words.proofs.lines.double_label.Given as goal

abbrev pub invariant-loop-name : goal.invariant-loop-name
invariant-loop-name l =
    first_double (line_of l.line).labels l.initial.layout.at (found l.initial.layout.labels)
    ≡ first_double (line_of l.rest).labels l.layout.at (found l.layout.labels)

abbrev pub decreases-loop-name : goal.decreases-loop-name
decreases-loop-name l = length l.rest
