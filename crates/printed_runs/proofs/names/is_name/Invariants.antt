-- They are those of a name if what is left is.
use Rattle.std.proofs.Common.{◌≡◌, length}
use Rattle.printed_runs.specs.Names.{is_name}
use Rattle.printed_runs.proofs.names.is_name.Given as goal

abbrev pub invariant-loop-left : goal.invariant-loop-left
invariant-loop-left l = is_name l.digits ≡ is_name l.left

abbrev pub decreases-loop-left : goal.decreases-loop-left
decreases-loop-left l = length l.left
