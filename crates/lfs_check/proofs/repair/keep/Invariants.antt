use Rattle.std.proofs.Common.{◌≡◌, ◌++◌, [], drop, take}
use Rattle.lfs_check.specs.Kept.{kept_counted}
use Rattle.lfs_check.proofs.repair.keep.Given as goal

abbrev pub invariant-loop-k : goal.invariant-loop-k
invariant-loop-k l = l.kept.items ++ kept_counted l.fields.geometry l.fields.indexes.now l.chains l.blocks (take l.k l.wholes) (drop l.k l.wholes) ≡ kept_counted l.fields.geometry l.fields.indexes.now l.chains l.blocks [] l.wholes
