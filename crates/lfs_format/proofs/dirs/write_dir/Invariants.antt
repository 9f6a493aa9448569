use Rattle.std.proofs.Common.{◌≡◌, ◌+◌, ◌*◌, ◌<◌, ◌++◌, ℕ, take, length, get_or}
use Rattle.std.specs.List.{flat_map}
use Rattle.lfs_format.specs.Directory.{entry_bytes, EntryFits, dir_words, void_entry}
use Rattle.lfs_format.specs.Words.{word_bytes}
use Rattle.lfs_format.proofs.dirs.write_dir.Given as goal

abbrev pub invariant-loop-e : goal.invariant-loop-e
invariant-loop-e l = record {
  len : length l.block ≡ 512;
  front : take (12 + 36 * l.e) l.block ≡ word_bytes (dir_words l.dir) ++ flat_map entry_bytes (take l.e l.dir.entries);
  fits : (k : ℕ) → k < l.e → EntryFits (get_or l.dir.entries k void_entry);
}
