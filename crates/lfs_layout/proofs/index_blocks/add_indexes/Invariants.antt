use Rattle.std.proofs.Common.{◌≡◌, ◌++◌}
use Rattle.lfs_check.specs.Fields.{numbered_values}
use Rattle.lfs_layout.specs.Made.{file_index, file_of}
use Rattle.lfs_layout.proofs.index_blocks.add_indexes.Given as goal

abbrev pub invariant-loop-j : goal.invariant-loop-j
invariant-loop-j l = l.indexes.items ≡ l.initial.indexes.items ++ numbered_values (file_index l.first l.data_first (file_of l.file)) l.j
