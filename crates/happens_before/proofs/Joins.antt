-- What a process knows once edges have come to it.
use Rattle.std.proofs.Common.{◌≡◌, ℕ, zero, suc, ◌≤◌, ◌<◌, ◌==◌, if◌then◌else◌, true, false, ◌⊎◌, inl, inr, List, [], ◌∷◌, length, get_or, refl, sym, subst, arith}
use Rattle.std.specs.List.{Contains}
use Rattle.std.proofs.Math.Nat.{le-max_left, le-max_right}
use Rattle.std.proofs.lemmas.Bool.{eq-eqb, cases_lt}
use Rattle.std.proofs.lemmas.Bool.Decides.{eqb_tells}
use Rattle.happens_before.specs.Clocks.{Clock, join, learnt}
use Rattle.happens_before.specs.Histories.{Edge}

-- an element of a longer list is its first, or one of the rest
first_or_rest_at : {A : Type 0} (x : A) (xs : List A) (y : A) (k : ℕ) → k < length (x ∷ xs) → get_or (x ∷ xs) k y ≡ y → (x ≡ y) ⊎ Contains xs y
first_or_rest_at x xs y zero within is = inl is
first_or_rest_at x xs y (suc k) within is = inr (k, omega arith, is)

pub first_or_rest : {A : Type 0} (x : A) (xs : List A) (y : A) → Contains (x ∷ xs) y → (x ≡ y) ⊎ Contains xs y
first_or_rest x xs y held = first_or_rest_at x xs y held.0 held.1 held.2

at_first : {A : Type 0} (x : A) (xs : List A) → Contains (x ∷ xs) x
at_first x xs = (0, omega arith, refl)

at_rest : {A : Type 0} (x : A) (xs : List A) (y : A) → Contains xs y → Contains (x ∷ xs) y
at_rest x xs y held = (suc held.0, omega (arith, held.1), held.2)

module _ (kept : ℕ → ℕ → Clock) (v : ℕ) where
  -- an edge takes nothing away
  pub grows : (edges : List Edge) (c : Clock) (u : ℕ) → c u ≤ learnt kept edges v c u
  grows [] c u = omega arith
  grows (e ∷ edges) c u =
      elim (e.target == v) as (λ b. c u ≤ learnt kept edges v (if b then join c (kept e.event e.source) else c) u) [
        | true ↦ omega (arith, grows edges (join c (kept e.event e.source)) u, le-max_left (c u) (kept e.event e.source u))
        | false ↦ grows edges c u
      ]

  brings_first : (e : Edge) (edges : List Edge) (c : Clock) (u : ℕ) → e.target ≡ v → kept e.event e.source u ≤ learnt kept (e ∷ edges) v c u
  brings_first e edges c u to =
      rw (eq-eqb e.target v to) (omega (arith, grows edges (join c (kept e.event e.source)) u, le-max_right (c u) (kept e.event e.source u)))

  -- an edge brings what its source knew
  pub brings : (edges : List Edge) (c : Clock) (u : ℕ) (e : Edge) → Contains edges e → e.target ≡ v → kept e.event e.source u ≤ learnt kept edges v c u
  brings [] c u e held to = absurd (omega (arith, held.1))
  brings (a ∷ edges) c u e held to =
      elim (first_or_rest a edges e held) [
        | inl is ↦ subst (λ (x : Edge). kept e.event e.source u ≤ learnt kept (x ∷ edges) v c u) (sym is) (brings_first e edges c u to)
        | inr rest ↦ brings edges _ u e rest to
      ]

  -- and nothing else comes
  pub comes : (edges : List Edge) (c : Clock) (u m : ℕ) → m ≤ learnt kept edges v c u →
      (m ≤ c u) ⊎ ((e : Edge) × Contains edges e × (e.target ≡ v) × (m ≤ kept e.event e.source u))
  comes [] c u m h = inl h
  comes (a ∷ edges) c u m h =
      elim (eqb_tells a.target v) [
        | inl to ↦ elim (comes edges (join c (kept a.event a.source)) u m (rw to.0 at h)) [
          | inl joined ↦ elim (cases_lt (c u) m) [
            | inl less ↦ inr (a, at_first a edges, to.1, omega arith)
            | inr known ↦ inl known
          ]
          | inr found ↦ inr (found.0, at_rest a edges found.0 found.1, found.2, found.3)
        ]
        | inr other ↦ elim (comes edges c u m (rw other.0 at h)) [
          | inl known ↦ inl known
          | inr found ↦ inr (found.0, at_rest a edges found.0 found.1, found.2, found.3)
        ]
      ]
