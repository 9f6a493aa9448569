-- What is left of the bytes begins with what is left of the name, if they begin with the name.
use Rattle.std.proofs.Common.{◌≡◌, drop}
use Rattle.gdb_packets.specs.Names.{rest_after}
use Rattle.gdb_packets.proofs.operands.rest_after.Given as goal

abbrev pub invariant-loop-byte : goal.invariant-loop-byte
invariant-loop-byte l = rest_after l.name l.bytes ≡ rest_after (drop l.byte-index l.name) l.rest
