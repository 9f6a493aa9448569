use Rattle.std.proofs.Common.{◌≡◌, ◌≤◌, ◌*◌, length}
use Rattle.lfs_format.specs.Directory.{dir_of}
use Rattle.lfs_check.specs.Rules.{block_in}
use Rattle.lfs_check.specs.Fields.{joined}
use Rattle.lfs_check.proofs.fields.read_entries_2.Given as goal

abbrev pub invariant-loop-d : goal.invariant-loop-d
invariant-loop-d l = record { items : l.entries.items ≡ joined (λ d. (dir_of (block_in l.bytes d)).entries) l.d; few : length l.entries.items ≤ 13 * l.d }
