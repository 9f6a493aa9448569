-- How far a text was read: what is left of it, or nothing once it differed.
use Rattle.std.specs.Prelude.{ℕ, if◌then◌else◌, List, length, drop, Option, Some, None}
use Rattle.transcript_laws.specs.Reading.{starts_with}

-- what is left after these bytes
abbrev pub after_bytes : List ℕ → Option (List ℕ) → Option (List ℕ)
after_bytes bytes None = None
after_bytes bytes (Some rest) = if starts_with bytes rest then Some (drop (length bytes) rest) else None
