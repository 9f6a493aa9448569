-- So far the entries of the threads below the present number were appended.
use Rattle.std.proofs.Common.{◌≡◌, ◌++◌}
use Rattle.gdb_answers.specs.Threads.{threads_below}
use Rattle.gdb_answers.proofs.threads.push_threads.Given as goal

abbrev pub invariant-loop-number : goal.invariant-loop-number
invariant-loop-number l = l.text.items ≡ l.initial.text.items ++ threads_below l.tables l.number
