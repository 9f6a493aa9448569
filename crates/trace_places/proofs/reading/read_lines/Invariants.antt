use Rattle.std.proofs.Common.{◌≡◌, ℕ, List, drop}
use Rattle.std.specs.Prelude.{Option}
use Rattle.trace_places.specs.Places.{Place, mistake_in}
use Rattle.trace_places.proofs.reading.read_lines.Given as goal

abbrev pub invariant-loop-line : goal.invariant-loop-line
invariant-loop-line l = (next : List ℕ → Option Place) → mistake_in l.lines l.text next ≡ mistake_in (drop l.line-index l.lines) l.rest next
