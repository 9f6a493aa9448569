use Rattle.std.proofs.Common.{◌≡◌, ◌<◌, ℕ, false, slice_index_or}
use Rattle.lfs_format.specs.Directory.{void_entry}
use Rattle.lfs_check.specs.Disks.{is_this}
use Rattle.local_files.proofs.search.find.Given as goal

abbrev pub invariant-loop-e : goal.invariant-loop-e
invariant-loop-e l = (k : ℕ) → k < l.e → is_this l.name (slice_index_or l.entries k void_entry) ≡ false
