-- Bytes among other bytes.
use Rattle.std.specs.Prelude.{ℕ, ◌+◌, nat_le, Bool, List, length, take, drop}

-- whether there are so many bytes from a place on
abbrev pub is_span : List ℕ → ℕ → ℕ → Bool
is_span bytes at many = nat_le (at + many) (length bytes)

-- so many bytes from a place on
abbrev pub span : List ℕ → ℕ → ℕ → List ℕ
span bytes at many = take many (drop at bytes)
