-- What is shown of the files that are open.
use Rattle.std.specs.Prelude.{ℕ, length, Option, Some, None}
use Rattle.xinu_model.specs.Files.Systems.{FileSystem, OpenFile, open_bytes}

-- the position in a file that is open, and its size
abbrev pub place_of : Option OpenFile → FileSystem → Option (ℕ × ℕ)
place_of None s = None
place_of (Some f) s = Some (f.position, length (open_bytes f s))
