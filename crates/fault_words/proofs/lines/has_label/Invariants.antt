-- The label is among those that are left or nowhere.
use Rattle.std.proofs.Common.{◌≡◌, length}
use Rattle.std.specs.List.{list_any}
use Rattle.std.specs.Str.{bytes_eq}
use Rattle.asm_syntax.specs.Statements.{line_of}
use Rattle.fault_words.proofs.lines.has_label.Given as goal

abbrev pub invariant-loop-label : goal.invariant-loop-label
invariant-loop-label l =
    list_any (λ label. bytes_eq l.name label) (line_of l.line).labels ≡ list_any (λ label. bytes_eq l.name label) (line_of l.rest).labels

abbrev pub decreases-loop-label : goal.decreases-loop-label
decreases-loop-label l = length l.rest
