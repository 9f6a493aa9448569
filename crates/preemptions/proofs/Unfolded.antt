-- The definitions, one step.
use Rattle.std.proofs.Common.{◌≡◌, ℕ, suc, ◌+◌, ◌-◌, List, [], ◌∷◌, ◌++◌, length, map, refl}
use Rattle.preemptions.specs.Placements.{ascending_from, later, placements_from}
use Rattle.preemptions.specs.declared.stretches.Stretch.{Stretch}

pub ascending_from-zero : (first numbers : ℕ) → ascending_from 0 first numbers ≡ [] ∷ []
unfolding ascending_from
ascending_from-zero first numbers = refl

pub ascending_from-none : (n first : ℕ) → ascending_from (suc n) first 0 ≡ []
unfolding ascending_from
ascending_from-none n first = refl

pub ascending_from-suc : (n first numbers : ℕ)
    → ascending_from (suc n) first (suc numbers) ≡ map (λ places. first ∷ places) (ascending_from n (first + 1) numbers) ++ ascending_from (suc n) (first + 1) numbers
unfolding ascending_from
ascending_from-suc n first numbers = refl

pub placements_from-zero : (n : ℕ) (s : Stretch) → placements_from 0 n s ≡ []
unfolding placements_from
placements_from-zero n s = refl

pub placements_from-suc : (sizes n : ℕ) (s : Stretch)
    → placements_from (suc sizes) n s ≡ ascending_from n (s.after + 1) (s.within - s.after) ++ placements_from sizes (n + 1) s
unfolding placements_from
placements_from-suc sizes n s = refl

pub later-nil : (within : ℕ) → later within [] ≡ []
unfolding later
later-nil within = refl

pub later-cons : (within k : ℕ) (places : List ℕ)
    → later within (k ∷ places) ≡ map (λ later_places. k ∷ later_places) (later within places) ++ ascending_from (length places + 1) (k + 1) (within - k)
unfolding later
later-cons within k places = refl
