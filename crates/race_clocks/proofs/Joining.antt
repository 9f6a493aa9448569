-- Two clocks are joined, one process after another.
use Rattle.std.proofs.Common.{◌≡◌, ◌<◌, ◌≤◌, ◌+◌, ◌∙◌, ℕ, List, [], ◌∷◌, length, max, replicate, slice_set, inl, inr, arith, ap, refl, length-set}
use Rattle.std.specs.List.{AllZip}
use Rattle.std.proofs.lemmas.Bool.{cases_lt}
use Rattle.std.proofs.lemmas.Bool.Decides.{eqb_tells}
use Rattle.std.proofs.lemmas.List.{get_or-replicate, get_or-set_other, get_or-set_same, get_or_past}
use Rattle.race_clocks.specs.Rows.{clock_at, clock_in}

-- c is a for the processes from n on, and both together for those below
pub record Joined (a b c : List ℕ) (n : ℕ) : Type 0 where
  pub size : length c ≡ length a
  pub done : (w : ℕ) → w < n → clock_in c w ≡ max (clock_in a w) (clock_in b w)
  pub rest : (w : ℕ) → n ≤ w → clock_in c w ≡ clock_in a w

-- a process up to the next is joined
step_done : (a b c : List ℕ) (u y w : ℕ) → u < length c → y ≡ max (clock_in a u) (clock_in b u) → Joined a b c u → w < u + 1
    → clock_in (slice_set c u y) w ≡ max (clock_in a w) (clock_in b w)
step_done a b c u y w low is before below = elim (eqb_tells w u) [
  | inl (_, e) ↦ rw e (get_or-set_same c u y 0 low ∙ is)
  | inr (_, n) ↦ get_or-set_other c u w y 0 n ∙ before.done w (omega (arith, below, n))
]

-- one more process
pub joined_step : (a b c : List ℕ) (u y : ℕ) → u < length c → y ≡ max (clock_in a u) (clock_in b u) → Joined a b c u
    → Joined a b (slice_set c u y) (u + 1)
joined_step a b c u y low is before = record {
  size = length-set c u y ∙ before.size;
  done = λ w below. step_done a b c u y w low is before below;
  rest = λ w above. get_or-set_other c u w y 0 (omega (arith, above)) ∙ before.rest w (omega (arith, above));
}

-- a row of zeros tells nothing
zeros : (u : ℕ) → clock_in (replicate 64 0) u ≡ 0
zeros u = elim (cases_lt u 64) [
  | inl low ↦ get_or-replicate 64 u 0 0 low
  | inr high ↦ get_or_past (replicate 64 0) u 0 high
]

-- nor do rows of zeros
pub nothing_known : (v u : ℕ) → clock_at (replicate 64 (replicate 64 0)) v u ≡ 0
nothing_known v u = elim (cases_lt v 64) [
  | inl low ↦ ap (λ r. clock_in r u) (get_or-replicate 64 v (replicate 64 0) [] low) ∙ zeros u
  | inr high ↦ ap (λ r. clock_in r u) (get_or_past (replicate 64 (replicate 64 0)) v [] high) ∙ get_or_past [] u 0 (omega arith)
]

-- a copy of a row is that row
pub zip_same : (xs ys : List ℕ) → AllZip (λ (x y : ℕ). y ≡ x) xs ys → ys ≡ xs
zip_same [] [] all = refl
zip_same [] (y ∷ ys) all = absurd all
zip_same (x ∷ xs) [] all = absurd all
zip_same (x ∷ xs) (y ∷ ys) all = let (e, rest) = all in ap (λ z. z ∷ ys) e ∙ ap (λ zs. x ∷ zs) (zip_same xs ys rest)
