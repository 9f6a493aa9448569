use Rattle.std.proofs.Common.{◌≡◌, ◌++◌, drop}
use Rattle.std.specs.List.{flat_map}
use Rattle.lfs_layout.specs.Made.{all_files, padded}
use Rattle.lfs_layout.proofs.data_blocks.add_files.Given as goal

abbrev pub invariant-loop-file : goal.invariant-loop-file
invariant-loop-file l = l.image.items ++ flat_map padded (drop l.file-index (all_files l.files)) ≡ l.initial.image.items ++ flat_map padded (all_files l.files)
