use Rattle.std.proofs.Common.{◌≡◌, drop}
use Rattle.lfs_check.specs.Checks.{rows_fault, least}
use Rattle.lfs_check.proofs.chain_rules.rows_fault.Given as goal

abbrev pub invariant-loop-j : goal.invariant-loop-j
invariant-loop-j l = least l.found (rows_fault l.geometry l.indexes l.left (drop l.j l.met)) ≡ rows_fault l.geometry l.indexes l.wanted l.met
