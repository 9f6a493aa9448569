use Rattle.std.proofs.Common.{◌≡◌, ◌*◌, drop}
use Rattle.lfs_check.specs.Checks.{offsets_fault, least}
use Rattle.lfs_check.proofs.chain_rules.offsets_fault.Given as goal

abbrev pub invariant-loop-j : goal.invariant-loop-j
invariant-loop-j l = least l.found (offsets_fault l.geometry l.indexes (8192 * l.j) (drop l.j l.met)) ≡ offsets_fault l.geometry l.indexes 0 l.met
