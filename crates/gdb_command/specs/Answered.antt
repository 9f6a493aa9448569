-- What is done for a packet.
use Rattle.std.specs.Prelude.{◌≡◌, ℕ, List, ◌++◌}
use Rattle.gdb_command.specs.Held.{Held}
use Rattle.gdb_packets.specs.Frames.{frame}

-- One frame is sent, which has this text, and kept. Nothing else happens.
pub record IsAnswered (old new : Held) (text before sent : List ℕ) : Type 0 where
  pub holds : new ≡ record old { sent = frame text }
  pub sends : sent ≡ before ++ frame text
