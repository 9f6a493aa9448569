-- What was shown, and what is left.
use Rattle.std.proofs.Common.{length}
use Rattle.gdb_command.proofs.Shown.{ShowsSome}
use Rattle.gdb_command.proofs.output.push_console_digits.Given as goal

abbrev pub invariant-loop-rest : goal.invariant-loop-rest
invariant-loop-rest l = record { some : ShowsSome l.digits l.fn.out.items l.out.items l.rest }

abbrev pub decreases-loop-rest : goal.decreases-loop-rest
decreases-loop-rest l = length l.rest
