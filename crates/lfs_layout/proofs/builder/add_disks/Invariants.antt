use Rattle.std.proofs.Common.{◌≡◌, ◌++◌}
use Rattle.lfs_check.specs.Fields.{joined}
use Rattle.lfs_layout.specs.Made.{index_disk}
use Rattle.lfs_layout.proofs.builder.add_disks.Given as goal

abbrev pub invariant-loop-d : goal.invariant-loop-d
invariant-loop-d l = l.image.items ≡ l.initial.image.items ++ joined (index_disk l.indexes) l.d
