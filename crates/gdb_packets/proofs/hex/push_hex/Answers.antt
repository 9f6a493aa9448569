-- One more byte.
use Rattle.std.proofs.Common.{arith}
use Rattle.std.proofs.lemmas.Grind.{common_steps}
use Rattle.gdb_packets.proofs.Pushes.{hex_of-push}
use Rattle.gdb_packets.proofs.hex.push_hex.Goals as goal

pub loop-byte-preserved : goal.loop-byte-preserved
loop-byte-preserved c = grind (arith, common_steps, hex_of-push)
