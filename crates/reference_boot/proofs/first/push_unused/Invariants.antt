-- So many were pushed.
use Rattle.std.proofs.Common.{◌≡◌, ◌++◌, replicate}
use Rattle.xinu_model.specs.Tables.{no_semaphore}
use Rattle.reference_boot.proofs.first.push_unused.Given as goal

abbrev pub invariant-loop-i : goal.invariant-loop-i
invariant-loop-i l = l.list.items ≡ l.fn.list.items ++ replicate l._i no_semaphore
