-- A text is read byte by byte: what was read, and the text of what is left.
use Rattle.std.proofs.Common.{ℕ, List, ◌++◌, Option}
use Rattle.std.specs.Prelude.{option_map}

-- a text after these bytes
abbrev pub after_bytes : List ℕ → Option (List ℕ) → Option (List ℕ)
after_bytes read o = option_map (λ text. read ++ text) o
