-- What was pushed and what is left are the lines of all.
use Rattle.std.proofs.Common.{◌≡◌, ◌++◌, map, drop}
use Rattle.xinu_model.specs.Text as model
use Rattle.reference_boot.proofs.dump.tables.push_sleepers.Given as goal

abbrev pub invariant-loop-entry : goal.invariant-loop-entry
invariant-loop-entry l =
    l.lines.items ++ map model.sleeper_line (drop l.entry-index l.sleepers) ≡ l.fn.lines.items ++ map model.sleeper_line l.sleepers
