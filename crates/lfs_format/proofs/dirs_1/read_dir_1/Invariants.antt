use Rattle.std.proofs.Common.{◌≡◌, drop, take, length}
use Rattle.lfs_format.specs.Pieces.{pieces_of}
use Rattle.lfs_format.specs.Directory.{entry_1_of}
use Rattle.lfs_format.proofs.dirs_1.read_dir_1.Given as goal

abbrev pub invariant-loop-e : goal.invariant-loop-e
invariant-loop-e l = record { len : length l.entries ≡ 20; front : take l.e l.entries ≡ pieces_of entry_1_of 24 l.e (drop 12 l.block) }
