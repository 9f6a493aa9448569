-- What was framed is read back.
use Rattle.gdb_packets.proofs.ReadBack.{read-framed}
use Rattle.gdb_packets.proofs.laws.frames_are_read_back.Goals as goal

pub returns : goal.returns
returns c = read-framed
