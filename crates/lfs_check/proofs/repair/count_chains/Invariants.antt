use Rattle.std.proofs.Common.{◌≡◌, ◌++◌, drop}
use Rattle.std.specs.List.{flat_map}
use Rattle.lfs_check.specs.Clean.{chain_in}
use Rattle.lfs_check.proofs.repair.count_chains.Given as goal

abbrev pub invariant-loop-entry : goal.invariant-loop-entry
invariant-loop-entry l = l.numbers.items ++ flat_map (chain_in l.fields.geometry l.fields.indexes.now) (drop l.entry-index l.entries) ≡ flat_map (chain_in l.fields.geometry l.fields.indexes.now) l.entries
