use Rattle.std.proofs.Common.{◌≡◌, ◌+◌, ◌-◌, not}
use Rattle.lfs_check.specs.Meets.{lowest_from}
use Rattle.lfs_check.specs.Rules.{is_dir_block}
use Rattle.lfs_check.proofs.rules.count_fault.Given as goal

abbrev pub invariant-loop-d : goal.invariant-loop-d
invariant-loop-d l = lowest_from (λ d. not (is_dir_block l.geometry l.header l.entries l.bytes d)) (0 + l.d) (l.geometry.dirs - l.d) ≡ lowest_from (λ d. not (is_dir_block l.geometry l.header l.entries l.bytes d)) 0 l.geometry.dirs
