-- No clock names an event that is still to come.
use Rattle.std.proofs.Common.{ℕ, zero, suc, ◌≤◌, if◌then◌else◌, true, false, inl, inr, List, arith}
use Rattle.std.specs.List.{Contains}
use Rattle.happens_before.specs.Clocks.{Clock, Clocks, clocks_after, clocks_next, knows_in, learnt, with_parts}
use Rattle.happens_before.specs.Histories.{Edge, IsHistory, Moment, is_stepper, moment_of}
use Rattle.happens_before.proofs.Joins.{comes}
use Rattle.happens_before.proofs.Parts.{parts_bounded}

pub record IsBounded (n : ℕ) (c : Clocks) : Type 0 where
  pub knows : (v u : ℕ) → c.knows v u ≤ n
  pub kept : (k v u : ℕ) → k ≤ n → c.kept k v u ≤ k

learnt_bounded : (kept : ℕ → ℕ → Clock) (edges : List Edge) (v : ℕ) (c : Clock) (u n : ℕ) → c u ≤ n →
    ((e : Edge) → Contains edges e → kept e.event e.source u ≤ n) → learnt kept edges v c u ≤ n
learnt_bounded kept edges v c u n known brought =
    let itself : learnt kept edges v c u ≤ learnt kept edges v c u = omega arith in
    elim (comes kept v edges c u (learnt kept edges v c u) itself) [
      | inl held ↦ omega arith
      | inr found ↦ omega (arith, found.3, brought found.0 found.1)
    ]

bounded_next : (n : ℕ) (m : Moment) (c : Clocks) → ((e : Edge) → Contains m.edges e → e.event ≤ suc n) → IsBounded n c →
    IsBounded (suc n) (clocks_next (suc n) m c)
bounded_next n m c come bounded =
    let sources : (k v u : ℕ) → k ≤ suc n → with_parts (suc n) c.knows c.kept k v u ≤ k =
    parts_bounded (suc n) c.knows c.kept (λ v u. omega (arith, bounded.knows v u)) (λ k v u h. bounded.kept k v u (omega arith)) in
    let inside : (v u : ℕ) → knows_in (suc n) m c v u ≤ suc n = λ v u.
    elim (is_stepper m.stepper v) as (λ b. (if b then learnt (with_parts (suc n) c.knows c.kept) m.edges v (c.knows v) else c.knows v) u ≤ suc n) [
      | true ↦ learnt_bounded _ m.edges v _ u (suc n) (omega (arith, bounded.knows v u))
          (λ e held. omega (arith, come e held, sources e.event e.source u (come e held)))
      | false ↦ omega (arith, bounded.knows v u)
    ] in
    let kept : (k v u : ℕ) → k ≤ suc n → with_parts (suc n) (knows_in (suc n) m c) c.kept k v u ≤ k =
    parts_bounded (suc n) (knows_in (suc n) m c) c.kept inside (λ k v u h. bounded.kept k v u (omega arith)) in
    record {
      knows = λ v u.
          elim (is_stepper m.stepper v) as (λ b. (if b then knows_in (suc n) m c v else learnt (with_parts (suc n) (knows_in (suc n) m c) c.kept) m.edges v (knows_in (suc n) m c v)) u ≤ suc n) [
            | true ↦ inside v u
            | false ↦ learnt_bounded _ m.edges v _ u (suc n) (inside v u)
                (λ e held. omega (arith, come e held, kept e.event e.source u (come e held)))
          ];
      kept = kept;
    }

pub bounded : (h : List Moment) → IsHistory h → (n : ℕ) → IsBounded n (clocks_after h n)
unfolding clocks_after
bounded h sound zero = record { knows = λ v u. omega arith; kept = λ k v u before. omega arith }
bounded h sound (suc n) = bounded_next n (moment_of h (suc n)) (clocks_after h n) (sound (suc n)) (bounded h sound n)
