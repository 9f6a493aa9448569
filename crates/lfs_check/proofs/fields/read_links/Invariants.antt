use Rattle.std.proofs.Common.{◌≡◌, length}
use Rattle.lfs_check.specs.Fields.{numbered_values, link_in_bytes}
use Rattle.lfs_check.proofs.fields.read_links.Given as goal

abbrev pub invariant-loop-n : goal.invariant-loop-n
invariant-loop-n l = record { items : l.links.items ≡ numbered_values (link_in_bytes l.bytes) l.n; len : length l.links.items ≡ l.n }
