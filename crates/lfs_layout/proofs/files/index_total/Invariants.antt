use Rattle.std.proofs.Common.{◌≡◌, ◌≤◌, ◌^◌, ◌+◌, ◌*◌, drop}
use Rattle.lfs_layout.specs.Files.{total_for}
use Rattle.lfs_layout.specs.Made.{all_files}
use Rattle.lfs_layout.proofs.files.index_total.Given as goal

abbrev pub invariant-loop-file : goal.invariant-loop-file
invariant-loop-file l = record {
  sum : l.total + total_for 8192 (drop l.file-index (all_files l.files)) ≡ total_for 8192 (all_files l.files);
  small : l.total ≤ 2 ^ 52 * l.file-index;
}
