use Rattle.std.proofs.Common.{◌≡◌, take}
use Rattle.lfs_check.specs.Checks.{nexts_of}
use Rattle.lfs_check.proofs.fields.read_nexts.Given as goal

abbrev pub invariant-loop-i : goal.invariant-loop-i
invariant-loop-i l = l.nexts.items ≡ nexts_of (take l.i l.indexes)
