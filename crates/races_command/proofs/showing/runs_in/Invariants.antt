-- The runs of the rows so far, and of those that are left.
use Rattle.std.proofs.Common.{◌≡◌, ◌+◌, drop, map}
use Rattle.std.specs.List.{sum}
use Rattle.races_command.proofs.showing.runs_in.Given as goal

abbrev pub invariant-loop-i : goal.invariant-loop-i
invariant-loop-i l = l.runs + sum (map (λ row. row.count) (drop l.i l.table)) ≡ sum (map (λ row. row.count) l.table)
