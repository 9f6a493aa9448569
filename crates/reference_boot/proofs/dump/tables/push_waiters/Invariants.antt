-- What was pushed and what is left are the lines of all.
use Rattle.std.proofs.Common.{◌≡◌, ◌++◌, map, drop}
use Rattle.xinu_base.specs.declared.lines.TranscriptLine.TheVariants as line
use Rattle.reference_boot.proofs.dump.tables.push_waiters.Given as goal

abbrev pub invariant-loop-p : goal.invariant-loop-p
invariant-loop-p l =
    l.lines.items ++ map (line.Waiter l.sem) (drop l.p-index l.waiters) ≡ l.fn.lines.items ++ map (line.Waiter l.sem) l.waiters
