use Rattle.std.proofs.Common.{◌≡◌, ◌<◌, ℕ, true, slice_index_or}
use Rattle.lfs_format.specs.Directory.{void_entry}
use Rattle.lfs_check.specs.Rules.{entry_is_used}
use Rattle.local_files.proofs.search.first_unused.Given as goal

abbrev pub invariant-loop-e : goal.invariant-loop-e
invariant-loop-e l = (k : ℕ) → k < l.e → entry_is_used (slice_index_or l.entries k void_entry) ≡ true
