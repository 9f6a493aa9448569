use Rattle.std.proofs.Common.{◌≡◌, ◌-◌, ◌++◌}
use Rattle.std.specs.List.{flat_map}
use Rattle.lfs_check.specs.Empty.{upwards}
use Rattle.lfs_layout.specs.Made.{free_data, geometry_2}
use Rattle.lfs_layout.proofs.data_blocks.add_free.Given as goal

abbrev pub invariant-loop-number : goal.invariant-loop-number
invariant-loop-number l = l.image.items ≡ l.initial.image.items ++ flat_map (free_data (geometry_2 l.blocks)) (upwards l.first (l.number - l.first))
