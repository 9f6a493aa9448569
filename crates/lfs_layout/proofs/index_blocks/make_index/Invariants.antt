use Rattle.std.proofs.Common.{◌≡◌, ◌<◌, ◌+◌, ◌*◌, ℕ, get_or, slice_index_or, length}
use Rattle.lfs_check.specs.Empty.{upwards}
use Rattle.lfs_check.specs.Meets.{null}
use Rattle.lfs_layout.proofs.index_blocks.make_index.Given as goal

abbrev pub invariant-loop-k : goal.invariant-loop-k
invariant-loop-k l = record {
  len : length l.blocks ≡ 16;
  each : (i : ℕ) → i < l.k → get_or l.blocks i 0 ≡ slice_index_or (upwards l.data_first l.data_count) (16 * l.j + i) null;
}
