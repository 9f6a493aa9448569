use Rattle.std.proofs.Common.{sym, arith}
use Rattle.std.proofs.lemmas.List.{length-take-le}
use Rattle.trace_report.proofs.quotes.push_line.Goals as goal

pub slice_bounds-push_shown-end : goal.slice_bounds-push_shown-end
slice_bounds-push_shown-end c = sym (length-take-le _ _ (omega arith))
