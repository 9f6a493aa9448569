-- The first n blocks.
use Rattle.std.proofs.Common.{◌≡◌}
use Rattle.std.specs.Simd.{first_chunks}
use Rattle.reference_boot.proofs.raw_disk.blocks_of.Given as goal

abbrev pub invariant-loop-n : goal.invariant-loop-n
invariant-loop-n l = l.blocks.items ≡ first_chunks 512 l.n l.fn.bytes
