use Rattle.std.proofs.Common.{◌≡◌, ◌++◌, drop}
use Rattle.lfs_check.specs.Kept.{whole_entries}
use Rattle.lfs_check.proofs.repair.find_wholes.Given as goal

abbrev pub invariant-loop-entry : goal.invariant-loop-entry
invariant-loop-entry l = l.wholes.items ++ whole_entries l.fields.geometry l.fields.indexes.now (drop l.entry-index l.entries) ≡ whole_entries l.fields.geometry l.fields.indexes.now l.entries
