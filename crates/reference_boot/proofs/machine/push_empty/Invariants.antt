-- So many were pushed.
use Rattle.std.proofs.Common.{◌≡◌, ◌++◌, replicate}
use Rattle.reference_boot.proofs.machine.push_empty.Given as goal

abbrev pub invariant-loop-i : goal.invariant-loop-i
invariant-loop-i l = l.blocks.items ≡ l.fn.blocks.items ++ replicate l._i (replicate 512 0)
