-- The placements of quantum ends: which steps they come before.
use Rattle.std.specs.Prelude.{ℕ, zero, suc, ◌+◌, ◌-◌, ◌<◌, ◌≤◌, List, [], ◌∷◌, ◌++◌, length, map}
use Rattle.std.specs.List.{All}
use Rattle.preemptions.specs.declared.stretches.Stretch.{Stretch}

-- each number is below those after it
abbrev pub IsAscending : List ℕ → Type 0
IsAscending [] = Unit {0}
IsAscending (k ∷ places) = All (λ later. k < later) places × IsAscending places

-- A placement has at most so many places, each once and in their order, after the first steps of a stretch up to its last.
pub record IsPlacement (most : ℕ) (stretch : Stretch) (places : List ℕ) : Type 0 where
  pub few : length places ≤ most
  pub ascending : IsAscending places
  pub inside : All (λ k. (stretch.after < k) × (k ≤ stretch.within)) places

-- the ascending lists of n numbers out of so many numbers from the first on, the earlier ones first
unfoldable pub ascending_from : ℕ → ℕ → ℕ → List (List ℕ)
ascending_from zero first numbers = [] ∷ []
ascending_from (suc n) first zero = []
ascending_from (suc n) first (suc numbers) =
    map (λ places. first ∷ places) (ascending_from n (first + 1) numbers) ++ ascending_from (suc n) (first + 1) numbers

-- the placements of so many sizes from size n on, the smaller ones first
unfoldable pub placements_from : ℕ → ℕ → Stretch → List (List ℕ)
placements_from zero n stretch = []
placements_from (suc sizes) n stretch =
    ascending_from n (stretch.after + 1) (stretch.within - stretch.after) ++ placements_from sizes (n + 1) stretch

-- the placements with at most so many places in a stretch: those with fewer places first, and of as many places the earlier ones
abbrev pub placements : ℕ → Stretch → List (List ℕ)
placements most stretch = placements_from (most + 1) 0 stretch

-- the placements of the same size that come after this one
unfoldable pub later : ℕ → List ℕ → List (List ℕ)
later within [] = []
later within (k ∷ places) = map (λ later_places. k ∷ later_places) (later within places) ++ ascending_from (length places + 1) (k + 1) (within - k)

-- the placements that come after this one
abbrev pub placements_after : ℕ → Stretch → List ℕ → List (List ℕ)
placements_after most stretch places =
    later stretch.within places ++ placements_from (most - length places) (length places + 1) stretch
