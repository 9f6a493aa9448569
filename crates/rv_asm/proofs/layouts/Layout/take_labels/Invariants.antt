-- The labels that are left come after those so far.
use Rattle.std.proofs.Common.{◌≡◌, ◌||◌, length}
use Rattle.asm_syntax.specs.Statements.{line_of, said_line}
use Rattle.asm_syntax.specs.Tokens.{tokens_of}
use Rattle.rv_asm.specs.CodeLabels.{found}
use Rattle.rv_asm.specs.CodeLayouts.{seen_layout}
use Rattle.rv_asm.specs.Faults.{is_double}
use Rattle.rv_asm.specs.Layouts.{after_labels}
use Rattle.rv_asm.proofs.layouts.Layout.take_labels.Given as goal

abbrev pub invariant-loop-name : goal.invariant-loop-name
invariant-loop-name l = record {
  layout : after_labels (line_of l.line).labels (seen_layout l.initial.self) ≡ after_labels (line_of l.rest).labels (seen_layout l.self);
  double : is_double (line_of l.line).labels l.initial.self.at (found l.initial.self.labels)
      ≡ (l.double || is_double (line_of l.rest).labels l.self.at (found l.self.labels));
  said : said_line (tokens_of l.line) ≡ said_line (tokens_of l.rest);
  statement : (line_of l.line).statement ≡ (line_of l.rest).statement;
}

abbrev pub decreases-loop-name : goal.decreases-loop-name
decreases-loop-name l = length l.rest
