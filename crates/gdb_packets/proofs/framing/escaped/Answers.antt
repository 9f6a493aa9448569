-- One more byte.
use Rattle.std.proofs.Common.{arith}
use Rattle.std.proofs.lemmas.Grind.{common_steps}
use Rattle.gdb_packets.proofs.Pushes.{escaped-push}
use Rattle.gdb_packets.proofs.framing.escaped.Goals as goal

pub loop-byte-preserved : goal.loop-byte-preserved
loop-byte-preserved c = grind (arith, common_steps, escaped-push)
