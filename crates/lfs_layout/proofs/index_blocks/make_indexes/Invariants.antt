use Rattle.std.proofs.Common.{◌≡◌, ◌-◌, ◌++◌, map}
use Rattle.lfs_check.specs.Geometries.{first_data}
use Rattle.lfs_check.specs.Empty.{upwards}
use Rattle.lfs_layout.specs.Made.{all_files, indexes_for, index_end, free_index, geometry_2}
use Rattle.lfs_layout.proofs.index_blocks.make_indexes.Given as goal

abbrev pub invariant-loop-i : goal.invariant-loop-i
invariant-loop-i l =
    l.indexes.items ≡ indexes_for 0 (first_data (geometry_2 l.blocks)) (all_files l.files) ++ map (free_index (geometry_2 l.blocks)) (upwards (index_end (all_files l.files)) (l.i - index_end (all_files l.files)))
