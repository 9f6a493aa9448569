-- So much was served, and so much is left.
use Rattle.std.proofs.Common.{length}
use Rattle.gdb_command.specs.Serving.{HasServed}
use Rattle.gdb_command.proofs.session.Session.units.Given as goal

abbrev pub invariant-loop-self : goal.invariant-loop-self
invariant-loop-self l = record { served : HasServed l.initial.self l.initial.input l.self l.sent.items l.rest }

abbrev pub decreases-loop-self : goal.decreases-loop-self
decreases-loop-self l = length l.rest
