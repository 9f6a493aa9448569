-- Walks of chains.
use Rattle.std.specs.Prelude.{ℕ, zero, suc, Bool, false, cond, not, ◌&&◌, nat_lt, nat_eq, List, [], ◌∷◌, ◌++◌, slice_index, slice_index_or}
use Rattle.std.specs.List.{list_any}

-- whether a number is among those met
abbrev pub is_met : ℕ → List ℕ → Bool
is_met n met = list_any (λ m. nat_eq m n) met

-- whether a walk goes on: not at a number out of range, nor at one that it has met
abbrev pub walk_goes_on : ℕ → ℕ → List ℕ → ℕ → Bool
walk_goes_on low high met n = nat_lt n high && not (nat_lt n low) && not (is_met n met)

-- the numbers that a walk has met at its end, after at most this many steps from n; met are those so far. links gives the next
-- of each number
unfoldable pub walk : List ℕ → ℕ → ℕ → ℕ → List ℕ → ℕ → List ℕ
walk links low high zero met n = met
walk links low high (suc steps) met n = cond (walk_goes_on low high met n) (walk links low high steps (met ++ n ∷ []) (slice_index links n)) met

-- the number that ended the walk
unfoldable pub walk_end : List ℕ → ℕ → ℕ → ℕ → List ℕ → ℕ → ℕ
walk_end links low high zero met n = n
walk_end links low high (suc steps) met n = cond (walk_goes_on low high met n) (walk_end links low high steps (met ++ n ∷ []) (slice_index links n)) n

-- the same by marks
abbrev pub is_open : List Bool → ℕ → ℕ → ℕ → Bool
is_open seen low high n = nat_lt n high && not (nat_lt n low) && not (slice_index_or seen n false)
