use Rattle.std.proofs.Common.{◌≡◌, drop}
use Rattle.lfs_layout.specs.Files.{entry_named}
use Rattle.lfs_layout.proofs.reading.entry_named.Given as goal

abbrev pub invariant-loop-entry : goal.invariant-loop-entry
invariant-loop-entry l = entry_named l.name (drop l.entry-index l.entries) ≡ entry_named l.name l.entries
