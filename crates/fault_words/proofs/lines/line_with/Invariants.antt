-- The first line with the label is among those that are left.
use Rattle.std.proofs.Common.{◌≡◌, ◌+◌, ◌≤◌, length}
use Rattle.rv_asm.specs.Assembly.{lines_in}
use Rattle.fault_words.specs.Reasons.{line_with}
use Rattle.fault_words.proofs.lines.line_with.Given as goal

abbrev pub invariant-loop-rest : goal.invariant-loop-rest
invariant-loop-rest l =
    record {
      number : line_with l.name 1 (lines_in l.text) ≡ line_with l.name (l.number + 1) (lines_in l.rest);
      lines : l.number + length l.rest ≤ length l.text;
    }

abbrev pub decreases-loop-rest : goal.decreases-loop-rest
decreases-loop-rest l = length l.rest
