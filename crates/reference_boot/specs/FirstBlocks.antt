-- Blocks of memory in a list.
use Rattle.std.specs.Prelude.{ℕ, ◌+◌, ◌≤◌, List, [], ◌∷◌}

-- the first block of a list, if there is one, ends at most at an address
abbrev pub FirstWithin : ℕ → List (ℕ × ℕ) → Type 0
FirstWithin end [] = Unit {0}
FirstWithin end (b ∷ blocks) = b.0 + b.1 ≤ end
