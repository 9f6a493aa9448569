use Rattle.std.proofs.Common.{◌≡◌, drop, take, []}
use Rattle.lfs_check.specs.Geometries.{room}
use Rattle.lfs_check.specs.Rules.{is_larger, first_failing}
use Rattle.lfs_check.proofs.rules.file_size_fault.Given as goal

abbrev pub invariant-loop-e : goal.invariant-loop-e
invariant-loop-e l = first_failing ((λ before e. is_larger (room l.geometry) e)) (take l.e l.entries) (drop l.e l.entries) ≡ first_failing ((λ before e. is_larger (room l.geometry) e)) [] l.entries
