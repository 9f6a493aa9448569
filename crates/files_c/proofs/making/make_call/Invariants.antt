-- The call is in hand or has its reply, and each block is one completion less.
use Rattle.local_files.specs.Bounds.{left}
use Rattle.local_files.specs.Standing.{GoesTo, given_bytes}
use Rattle.files_c.proofs.making.make_call.Given as goal

abbrev pub invariant-loop-files : goal.invariant-loop-files
invariant-loop-files l = GoesTo l.files.phase l.fn.call (given_bytes l.fn.call l.fn.bytes) l.fn.files l.files l.fn.disk l.disk

abbrev pub decreases-loop-files : goal.decreases-loop-files
decreases-loop-files l = left l.files l.fn.disk
