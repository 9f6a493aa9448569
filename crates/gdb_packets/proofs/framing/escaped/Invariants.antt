-- The bytes so far.
use Rattle.std.proofs.Common.{◌≡◌, take}
use Rattle.gdb_packets.specs.Frames.{escaped}
use Rattle.gdb_packets.proofs.framing.escaped.Given as goal

abbrev pub invariant-loop-byte : goal.invariant-loop-byte
invariant-loop-byte l = l.text.items ≡ escaped (take l.byte-index l.bytes)
