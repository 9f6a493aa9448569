-- One more byte.
use Rattle.std.proofs.Common.{arith}
use Rattle.gdb_packets.proofs.Said.{said-more}
use Rattle.gdb_packets.specs.Units.{unescaped}
use Rattle.gdb_packets.proofs.units.unescaped.Goals as goal

pub loop-byte-preserved : goal.loop-byte-preserved
loop-byte-preserved c =
    said-more (unescaped c.args.bytes.now) c.loop-byte.said.items c.say.new.said.items c.args.bytes.now c.loop-byte.byte-index c.loop-byte.is_escaped _
    c.loop-byte.invariant (omega arith) c.in_ok-is_escaped.ensures.said
