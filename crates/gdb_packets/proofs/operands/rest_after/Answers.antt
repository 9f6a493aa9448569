-- Bytes that end before the name.
use Rattle.std.proofs.Common.{arith}
use Rattle.gdb_packets.proofs.Names.{rest_after-short}
use Rattle.gdb_packets.proofs.operands.rest_after.Goals as goal

pub returns-in-empty : goal.returns-in-empty
returns-in-empty c =
    record {
      rest =
          rest_after-short c.args.name.now c.args.bytes.now c.loop-byte.rest.now c.loop-byte.byte-index c.loop-byte.invariant c.in-empty.len_below
          (omega arith);
    }
