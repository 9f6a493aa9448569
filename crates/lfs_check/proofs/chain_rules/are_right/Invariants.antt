use Rattle.std.proofs.Common.{◌≡◌, ◌-◌, drop}
use Rattle.lfs_check.specs.Checks.{row_fits}
use Rattle.lfs_check.proofs.chain_rules.are_right.Given as goal

abbrev pub invariant-loop-k : goal.invariant-loop-k
invariant-loop-k l = row_fits l.geometry (l.wanted - l.k) (drop l.k l.numbers) ≡ row_fits l.geometry l.wanted l.numbers
