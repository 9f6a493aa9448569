use Rattle.std.proofs.Common.{◌≡◌, ◌+◌, ◌++◌, drop}
use Rattle.lfs_check.specs.Geometries.{first_data}
use Rattle.lfs_layout.specs.Files.{total_for}
use Rattle.lfs_layout.specs.Made.{all_files, indexes_for, geometry_2}
use Rattle.lfs_layout.proofs.index_blocks.make_used.Given as goal

abbrev pub invariant-loop-file : goal.invariant-loop-file
invariant-loop-file l = record {
  items : l.indexes.items ++ indexes_for l.first l.data_first (drop l.file-index (all_files l.files)) ≡ indexes_for 0 (first_data (geometry_2 l.blocks)) (all_files l.files);
  numbers : l.first + total_for 8192 (drop l.file-index (all_files l.files)) ≡ total_for 8192 (all_files l.files);
  data_numbers : l.data_first + total_for 512 (drop l.file-index (all_files l.files)) ≡ first_data (geometry_2 l.blocks) + total_for 512 (all_files l.files);
}
