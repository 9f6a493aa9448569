-- What is shown on the debugger's console.
use Rattle.std.specs.Prelude.{◌≡◌, ℕ, List, ◌++◌, codes}
use Rattle.std.specs.List.{flat_map, concat}
use Rattle.gdb_packets.specs.Frames.{frame}
use Rattle.xinu_base.specs.Hexadecimal.{hex_of}

-- the packet that shows the bytes of these digits
abbrev pub console_packet : List ℕ → List ℕ
console_packet digits = frame (codes "O" ++ digits)

-- Packets show the bytes that digits write, part after part: they come after what had been sent before.
pub record ShowsDigits (digits before after : List ℕ) : Type 0 where
  pub parts : List (List ℕ)
  pub whole : concat parts ≡ digits
  pub sends : after ≡ before ++ flat_map console_packet parts

-- Packets show these bytes.
abbrev pub Shows : List ℕ → List ℕ → List ℕ → Type 0
Shows bytes before after = ShowsDigits (hex_of bytes) before after
