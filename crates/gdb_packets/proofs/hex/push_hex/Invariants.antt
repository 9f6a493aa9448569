-- So far the digits of the bytes before the present one were appended.
use Rattle.std.proofs.Common.{◌≡◌, ◌++◌, take}
use Rattle.xinu_base.specs.Hexadecimal.{hex_of}
use Rattle.gdb_packets.proofs.hex.push_hex.Given as goal

abbrev pub invariant-loop-byte : goal.invariant-loop-byte
invariant-loop-byte l = l.text.items ≡ l.initial.text.items ++ hex_of (take l.byte-index l.bytes)
