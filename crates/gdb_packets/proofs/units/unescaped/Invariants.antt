-- What was said so far is in front of what the bytes that are left say.
use Rattle.std.proofs.Common.{◌≡◌, ◌++◌, drop}
use Rattle.gdb_packets.specs.Units.{unescaped, unescaped_after}
use Rattle.gdb_packets.proofs.units.unescaped.Given as goal

abbrev pub invariant-loop-byte : goal.invariant-loop-byte
invariant-loop-byte l = unescaped l.bytes ≡ l.said.items ++ unescaped_after l.is_escaped (drop l.byte-index l.bytes)
