use Rattle.std.proofs.Common.{◌≡◌, drop, take, length}
use Rattle.lfs_format.specs.Pieces.{pieces_of}
use Rattle.lfs_format.specs.Directory.{entry_of}
use Rattle.lfs_format.proofs.dirs.read_dir.Given as goal

abbrev pub invariant-loop-e : goal.invariant-loop-e
invariant-loop-e l = record { len : length l.entries ≡ 13; front : take l.e l.entries ≡ pieces_of entry_of 36 l.e (drop 12 l.block) }
