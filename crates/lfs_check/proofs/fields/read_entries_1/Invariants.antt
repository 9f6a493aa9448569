use Rattle.std.proofs.Common.{◌≡◌, ◌≤◌, length, map, take}
use Rattle.lfs_check.specs.Fields.{widened}
use Rattle.lfs_check.proofs.fields.read_entries_1.Given as goal

abbrev pub invariant-loop-e : goal.invariant-loop-e
invariant-loop-e l = record { items : l.entries.items ≡ map widened (take l.e l.dir.entries); few : length l.entries.items ≤ l.e }
