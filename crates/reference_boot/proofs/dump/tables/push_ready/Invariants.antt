-- What was pushed and what is left are the lines of all.
use Rattle.std.proofs.Common.{◌≡◌, ◌++◌, map, drop}
use Rattle.xinu_model.specs.Text as model
use Rattle.reference_boot.proofs.dump.tables.push_ready.Given as goal

abbrev pub invariant-loop-entry : goal.invariant-loop-entry
invariant-loop-entry l =
    l.lines.items ++ map model.ready_line (drop l.entry-index l.ready) ≡ l.fn.lines.items ++ map model.ready_line l.ready
