-- The bytes so far are in front of those that are still to be read.
use Rattle.std.proofs.Common.{◌≡◌, length}
use Rattle.gdb_packets.proofs.Numbers.{behind}
use Rattle.gdb_packets.specs.Digits.{bytes_of}
use Rattle.gdb_packets.proofs.digits.bytes_of.Given as goal

abbrev pub invariant-loop-rest : goal.invariant-loop-rest
invariant-loop-rest l = bytes_of l.digits ≡ behind l.bytes.items (bytes_of l.rest)

abbrev pub decreases-loop-rest : goal.decreases-loop-rest
decreases-loop-rest l = length l.rest
