-- The clock of a part, entry by entry.
use Rattle.std.proofs.Common.{◌≡◌, ◌≢◌, ℕ, ◌≤◌, ◌<◌, ◌⊎◌, inl, inr, refl, arith}
use Rattle.std.proofs.lemmas.Bool.{eq-eqb}
use Rattle.std.proofs.lemmas.Bool.Decides.{eqb_tells}
use Rattle.happens_before.specs.Clocks.{Clock, own, with_parts}

-- its own event, or what its process knows
pub own_self : (n v : ℕ) (c : Clock) → own n v c v ≡ n
own_self n v c = rw (eq-eqb v v refl)

pub own_other : (n v : ℕ) (c : Clock) (u : ℕ) → u ≢ v → own n v c u ≡ c u
own_other n v c u other = elim (eqb_tells u v) [ inl same ↦ absurd (other same.1) | inr is ↦ rw is.0 ]

module _ (n : ℕ) (knows : ℕ → Clock) (kept : ℕ → ℕ → Clock) where
  -- the clocks of the parts of event n, and of those before it
  pub parts_now : (v : ℕ) → with_parts n knows kept n v ≡ own n v (knows v)
  parts_now v = rw (eq-eqb n n refl)

  pub parts_before : (k v : ℕ) → k < n → with_parts n knows kept k v ≡ kept k v
  parts_before k v h = elim (eqb_tells k n) [ inl same ↦ absurd (omega (arith, same.1)) | inr is ↦ rw is.0 ]

  -- so there are three cases of an entry
  pub parts_cases : (k v u : ℕ) → k ≤ n →
      ((k ≡ n) × (u ≡ v) × (with_parts n knows kept k v u ≡ n)) ⊎
      (((k ≡ n) × (u ≢ v) × (with_parts n knows kept k v u ≡ knows v u)) ⊎ ((k < n) × (with_parts n knows kept k v u ≡ kept k v u)))
  parts_cases k v u h =
      elim (eqb_tells k n) [
        | inl now ↦ elim (eqb_tells u v) [
          | inl same ↦ inl (now.1, same.1, rw (now.0, same.0))
          | inr other ↦ inr (inl (now.1, other.1, rw (now.0, other.0)))
        ]
        | inr before ↦ inr (inr (omega (arith, before.1), rw before.0))
      ]

  pub parts_bounded : ((v u : ℕ) → knows v u ≤ n) → ((k v u : ℕ) → k < n → kept k v u ≤ k) → (k v u : ℕ) → k ≤ n → with_parts n knows kept k v u ≤ k
  parts_bounded of_knows of_kept k v u h =
      elim (parts_cases k v u h) [
        | inl own ↦ omega (arith, own.0, own.2)
        | inr rest ↦ elim rest [
          | inl now ↦ omega (arith, now.0, now.2, of_knows v u)
          | inr before ↦ omega (arith, before.1, of_kept k v u before.0)
        ]
      ]
