-- The places at which the two walks for an insertion stop.
use Rattle.std.specs.Prelude.{◌≡◌, ℕ, ℤ, pos, ◌≤ℤ◌, ◌<ℤ◌, ◌+ℤ◌, List, [], ◌∷◌, ◌++◌}
use Rattle.queue_table.specs.Lists.{Entry, KeysAtLeast, KeysBelow, key_sum}
use Rattle.queue_table.specs.Entries.{first_to}

-- the list with the first key more by k
abbrev pub first_raised : ℤ → List Entry → List Entry
first_raised k [] = []
first_raised k (e ∷ l) = (e.0, e.1 +ℤ k) ∷ l

-- the first key is above k
abbrev pub FirstAbove : ℤ → List Entry → Type 0
FirstAbove k [] = Unit {0}
FirstAbove k (e ∷ l) = k <ℤ e.1

-- entry n, or the tail t, is the first of list l whose key is less than k
abbrev pub GoesBefore : List Entry → ℤ → ℕ → ℕ → Type 0
GoesBefore l k t n = (pre : List Entry) × (post : List Entry) × (l ≡ pre ++ post) × KeysAtLeast k pre × KeysBelow k post × (n ≡ first_to post t)

-- entry n, or the tail t, is the first of delta list l whose delay is greater than d, and `left` is what of d is left after the entries ahead of it
abbrev pub GoesAtDelay : List Entry → ℤ → ℕ → ℕ → ℤ → Type 0
GoesAtDelay l d t n left = (pre : List Entry) × (post : List Entry) × (l ≡ pre ++ post) × (n ≡ first_to post t) × (pos 0 ≤ℤ left) × (left +ℤ key_sum pre ≡ d) × FirstAbove left post
