-- The number so far, and the digits that are left.
use Rattle.std.proofs.Common.{◌≡◌, Some, drop}
use Rattle.gdb_command.specs.Monitor.{count_after, count_in}
use Rattle.gdb_command.proofs.asked.count_in.Given as goal

abbrev pub invariant-loop-digit : goal.invariant-loop-digit
invariant-loop-digit l = count_after (Some l.count) (drop l.digit-index l.digits) ≡ count_in l.digits
