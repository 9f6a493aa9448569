use Rattle.std.proofs.Common.{◌≡◌, ◌-◌, ◌*◌, ◌++◌, take, drop, length, replicate}
use Rattle.std.specs.List.{flat_map}
use Rattle.lfs_format.specs.Indexes.{index_bytes}
use Rattle.lfs_layout.proofs.index_blocks.make_disk.Given as goal

abbrev pub invariant-loop-k : goal.invariant-loop-k
invariant-loop-k l = record {
  bytes : l.block ≡ flat_map index_bytes (take l.k (drop (7 * l.d) l.indexes)) ++ replicate (512 - 72 * l.k) 0;
  front : length (flat_map index_bytes (take l.k (drop (7 * l.d) l.indexes))) ≡ 72 * l.k;
}
