use Rattle.std.proofs.Common.{◌≡◌, length}
use Rattle.lfs_check.specs.Fields.{numbered_values, index_in_bytes}
use Rattle.lfs_check.proofs.fields.read_indexes.Given as goal

abbrev pub invariant-loop-i : goal.invariant-loop-i
invariant-loop-i l = record { items : l.indexes.items ≡ numbered_values (index_in_bytes l.geometry l.bytes) l.i; len : length l.indexes.items ≡ l.i }
