-- A list that is walked from one process to the next.
use Rattle.std.specs.Prelude.{◌≡◌, ℕ, ◌==◌, if◌then◌else◌, List, [], ◌∷◌, Option, Some, None}

-- the entries of a list from process p on, and none if there is no such process
abbrev pub entries_from : {K : Type 0} → Option ℕ → List (ℕ × K) → List (ℕ × K)
entries_from None l = []
entries_from (Some p) [] = []
entries_from (Some p) (e ∷ l) = if p == e.0 then e ∷ l else entries_from (Some p) l

-- the same of a list of numbers
abbrev pub numbers_from : Option ℕ → List ℕ → List ℕ
numbers_from None l = []
numbers_from (Some p) [] = []
numbers_from (Some p) (x ∷ l) = if p == x then x ∷ l else numbers_from (Some p) l

-- p is in the list with this tick
abbrev pub StandsAt : ℕ → ℕ → List (ℕ × ℕ) → Type 0
StandsAt p wake l = (rest : List (ℕ × ℕ)) × (entries_from (Some p) l ≡ (p, wake) ∷ rest)
