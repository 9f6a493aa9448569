-- The remainder so far, and the bytes that are left.
use Rattle.std.proofs.Common.{◌≡◌, drop}
use Rattle.gdb_answers.specs.Checksums.{crc_from, crc_of}
use Rattle.gdb_answers.proofs.checksums.crc_of.Given as goal

abbrev pub invariant-loop-byte : goal.invariant-loop-byte
invariant-loop-byte l = crc_from l.crc (drop l.byte-index l.bytes) ≡ crc_of l.bytes
