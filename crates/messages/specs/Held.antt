-- What a process holds.
use Rattle.std.specs.Prelude.{ℕ, List, Option, None, slice_index_or}

-- the message that process p holds, if it holds one
abbrev pub held : List (Option ℕ) → ℕ → Option ℕ
held messages p = slice_index_or messages p None
