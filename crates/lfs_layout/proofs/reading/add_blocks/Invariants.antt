use Rattle.std.proofs.Common.{◌≡◌, ◌++◌, take}
use Rattle.std.specs.List.{flat_map}
use Rattle.lfs_check.specs.Rules.{block_in}
use Rattle.lfs_layout.proofs.reading.add_blocks.Given as goal

abbrev pub invariant-loop-j : goal.invariant-loop-j
invariant-loop-j l = l.bytes.items ≡ l.initial.bytes.items ++ flat_map (block_in l.image) (take l.j l.numbers)
