use Rattle.trace_report.specs.Reports.{due_line}
use Rattle.trace_report.proofs.Parts.{three_parts}
use Rattle.trace_report.proofs.reports.push_due_line.Goals as goal

pub returns : goal.returns
unfolding due_line
returns c = record {
  line = three_parts _ _ _ _ _ _ _ _ c.in_ok-extend_from_slice.ensures.items c.in_ok-push_quoted.ensures.quoted c.push_when.ensures.when;
}
