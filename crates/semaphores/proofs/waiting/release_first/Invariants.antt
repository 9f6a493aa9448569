-- What is left to be released gives the whole.
use Rattle.std.proofs.Common.{◌-◌}
use Rattle.arrayvec.specs.ArrayVec.{array_vec_len}
use Rattle.queue_table.specs.Table.{lists}
use Rattle.semaphores.proofs.Releasing.{IsReleasing}
use Rattle.semaphores.proofs.waiting.release_first.Given as goal

abbrev pub invariant-loop-sem : goal.invariant-loop-sem
invariant-loop-sem l =
    IsReleasing (lists l.fn.lists) l.fn.procs l.sem l.most (lists l.lists) l.procs l.released.items (array_vec_len l.released)

abbrev pub decreases-loop-sem : goal.decreases-loop-sem
decreases-loop-sem l = l.most - array_vec_len l.released
