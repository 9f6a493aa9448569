-- No number so far has a process.
use Rattle.std.proofs.Common.{◌≡◌, ◌-◌}
use Rattle.gdb_answers.specs.Threads.{first_left}
use Rattle.gdb_answers.proofs.threads.first_left.Given as goal

abbrev pub invariant-loop-number : goal.invariant-loop-number
invariant-loop-number l = first_left l.tables 1 63 ≡ first_left l.tables l.number (64 - l.number)
