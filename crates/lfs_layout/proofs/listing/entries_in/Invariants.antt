use Rattle.std.proofs.Common.{◌≡◌, ◌*◌, length, take}
use Rattle.lfs_format.specs.Directory.{dir_of}
use Rattle.lfs_check.specs.Rules.{block_in}
use Rattle.lfs_check.specs.Fields.{joined}
use Rattle.lfs_layout.proofs.listing.entries_in.Given as goal

abbrev pub invariant-loop-d : goal.invariant-loop-d
invariant-loop-d l = record { items : take (13 * l.d) l.entries ≡ joined (λ d. (dir_of (block_in l.image d)).entries) l.d; len : length l.entries ≡ 78 }
