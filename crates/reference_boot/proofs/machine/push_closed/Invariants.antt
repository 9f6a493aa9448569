-- So many were pushed.
use Rattle.std.proofs.Common.{◌≡◌, ◌++◌, None, replicate}
use Rattle.reference_boot.proofs.machine.push_closed.Given as goal

abbrev pub invariant-loop-i : goal.invariant-loop-i
invariant-loop-i l = l.devices.items ≡ l.fn.devices.items ++ replicate l._i None
