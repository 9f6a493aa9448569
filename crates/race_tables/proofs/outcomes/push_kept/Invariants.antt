-- The lines so far, and those that are left.
use Rattle.std.proofs.Common.{◌≡◌, ◌++◌, length}
use Rattle.race_tables.specs.Outcomes as spec
use Rattle.race_tables.proofs.outcomes.push_kept.Given as goal

abbrev pub invariant-loop-rest : goal.invariant-loop-rest
invariant-loop-rest l = record {
  kept : l.lines.items ++ spec.kept l.word l.rest ≡ l.initial.lines.items ++ spec.kept l.word l.text;
}

abbrev pub decreases-loop-rest : goal.decreases-loop-rest
decreases-loop-rest l = length l.rest
