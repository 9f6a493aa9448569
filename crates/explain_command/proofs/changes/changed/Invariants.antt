-- The registers so far are as they were.
use Rattle.explain_command.specs.Changes.{AreKept}
use Rattle.explain_command.proofs.changes.changed.Given as goal

abbrev pub invariant-loop-number : goal.invariant-loop-number
invariant-loop-number l = AreKept l.before.regs l.after.regs l.number
