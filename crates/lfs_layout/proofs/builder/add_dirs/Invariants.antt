use Rattle.std.proofs.Common.{◌≡◌, ◌++◌}
use Rattle.lfs_format.specs.Directory.{dir_bytes}
use Rattle.lfs_check.specs.Fields.{joined}
use Rattle.lfs_layout.specs.Made.{dir_for}
use Rattle.lfs_layout.proofs.builder.add_dirs.Given as goal

abbrev pub invariant-loop-d : goal.invariant-loop-d
invariant-loop-d l = l.image.items ≡ l.initial.image.items ++ joined (λ d. dir_bytes (dir_for l.header l.entries d)) l.d
