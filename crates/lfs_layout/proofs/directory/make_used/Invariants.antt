use Rattle.std.proofs.Common.{◌≡◌, ◌≤◌, ◌+◌, ◌++◌, drop, length}
use Rattle.lfs_layout.specs.Files.{total_for}
use Rattle.lfs_layout.specs.Made.{all_files, entries_for}
use Rattle.lfs_layout.proofs.directory.make_used.Given as goal

abbrev pub invariant-loop-file : goal.invariant-loop-file
invariant-loop-file l = record {
  items : l.entries.items ++ entries_for l.first (drop l.file-index (all_files l.files)) ≡ entries_for 0 (all_files l.files);
  len : length l.entries.items ≡ l.file-index;
  indexes : l.first + total_for 8192 (drop l.file-index (all_files l.files)) ≡ total_for 8192 (all_files l.files);
  data_blocks : total_for 512 (drop l.file-index (all_files l.files)) ≤ total_for 512 (all_files l.files);
}
