-- So far the digits of the bytes before the present one were appended.
use Rattle.std.proofs.Common.{◌≡◌, ◌++◌, ◌+◌, ◌*◌, length, take}
use Rattle.host_port.specs.LineText.{hex_of}
use Rattle.host_port.proofs.line.Line.hex.Given as goal

abbrev pub invariant-loop-b : goal.invariant-loop-b
invariant-loop-b l =
    (l.self ≡ l.initial.self ++ hex_of (take l.b-index l.bytes)) × (length l.self ≡ length l.initial.self + 2 * l.b-index)
