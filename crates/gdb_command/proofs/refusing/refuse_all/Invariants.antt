-- So many steps were made, and it goes on.
use Rattle.std.proofs.Common.{false}
use Rattle.gdb_command.proofs.Reading.{at}
use Rattle.gdb_command.proofs.Refused.{RefusesUpTo}
use Rattle.gdb_command.proofs.refusing.refuse_all.Given as goal

abbrev pub invariant-loop : goal.invariant-loop
invariant-loop g l =
    RefusesUpTo l.counter l.error (at (g.R.Read.remaining l.fn.input) (g.W.Write.contents l.fn.output))
    (at (g.R.Read.remaining l.input) (g.W.Write.contents l.output)) l.pending.items false
