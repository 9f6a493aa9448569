use Rattle.std.proofs.Common.{◌≡◌, drop, take, []}
use Rattle.lfs_check.specs.Rules.{has_bad_name, first_failing}
use Rattle.lfs_check.proofs.rules.name_fault.Given as goal

abbrev pub invariant-loop-e : goal.invariant-loop-e
invariant-loop-e l = first_failing (has_bad_name l.geometry) (take l.e l.entries) (drop l.e l.entries) ≡ first_failing (has_bad_name l.geometry) [] l.entries
