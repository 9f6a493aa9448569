use Rattle.std.proofs.Common.{◌≡◌, ◌++◌, drop}
use Rattle.lfs_layout.specs.Files.{other_entries}
use Rattle.lfs_layout.proofs.reading.entries_without.Given as goal

abbrev pub invariant-loop-entry : goal.invariant-loop-entry
invariant-loop-entry l = l.others.items ++ other_entries l.name (drop l.entry-index l.entries) ≡ other_entries l.name l.entries
