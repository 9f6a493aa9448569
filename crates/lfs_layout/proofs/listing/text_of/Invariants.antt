use Rattle.std.proofs.Common.{◌≡◌, ◌+◌, take, drop}
use Rattle.lfs_check.specs.Rules.{text_length}
use Rattle.lfs_layout.proofs.listing.text_of.Given as goal

abbrev pub invariant-loop-byte : goal.invariant-loop-byte
invariant-loop-byte l = record {
  items : l.text.items ≡ take l.byte-index l.name;
  rest : l.byte-index + text_length (drop l.byte-index l.name) ≡ text_length l.name;
}
