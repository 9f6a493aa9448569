-- What a clock has comes before.
use Rattle.std.proofs.Common.{◌≡◌, ◌≢◌, ℕ, zero, suc, ◌≤◌, ◌<◌, if◌then◌else◌, Bool, true, false, ◌⊎◌, inl, inr, List, Some, refl, sym, ap, subst, ◌∙◌, arith}
use Rattle.std.specs.List.{Contains}
use Rattle.std.proofs.lemmas.Bool.{cases_lt}
use Rattle.happens_before.specs.Clocks.{Clock, Clocks, clock_of, clocks_after, knows_after, knows_in, learnt, with_parts}
use Rattle.happens_before.specs.Histories.{Edge, IsHistory, Moment, is_stepper, moment_of}
use Rattle.happens_before.specs.Order.{HappensBefore, program, edge, edge_now, chain, part}
use Rattle.happens_before.proofs.Joins.{comes}
use Rattle.happens_before.proofs.Parts.{parts_cases}
use Rattle.happens_before.proofs.Stepping.{stepper_is}

module _ (h : List Moment) where
  -- What these clocks know of what processes did comes before all their parts from event n on.
  KnowsTrue : ℕ → (ℕ → Clock) → Type 0
  KnowsTrue n knows = (v u m l : ℕ) → 0 < m → m ≤ knows v u → n ≤ l → HappensBefore h (part m u) (part l v)

  -- What the clocks of the parts before event n have is the part itself, or comes before it.
  KeptTrue : ℕ → (ℕ → ℕ → Clock) → Type 0
  KeptTrue n kept = (k v u m : ℕ) → k < n → 0 < m → m ≤ kept k v u → ((m ≡ k) × (u ≡ v)) ⊎ HappensBefore h (part m u) (part k v)

  parts_true : (n : ℕ) (knows : ℕ → Clock) (kept : ℕ → ℕ → Clock) → KnowsTrue n knows → KeptTrue n kept → KeptTrue (suc n) (with_parts n knows kept)
  unfolding KnowsTrue KeptTrue
  parts_true n knows kept of_knows of_kept k v u m before some has =
      elim (parts_cases n knows kept k v u (omega arith)) [
        | inl own ↦ elim (cases_lt m k) [
          | inl less ↦ inr (subst (λ w. HappensBefore h (part m u) (part k w)) own.1 (program less))
          | inr now ↦ inl (omega (arith, own.0, own.2), own.1)
        ]
        | inr rest ↦ elim rest [
          | inl now ↦ inr (of_knows v u m k some (omega (arith, now.2)) (omega (arith, now.0)))
          | inr earlier ↦ of_kept k v u m earlier.0 some (omega (arith, earlier.1))
        ]
      ]

  -- what comes with an edge comes before what the edge leads to
  learnt_true : (n : ℕ) (kept : ℕ → ℕ → Clock) (edges : List Edge) (c : Clock) (v u m l : ℕ) → KeptTrue n kept →
      ((e : Edge) → Contains edges e → e.event < n) →
      ((e : Edge) → Contains edges e → e.target ≡ v → HappensBefore h (part e.event e.source) (part l v)) →
      (m ≤ c u → HappensBefore h (part m u) (part l v)) → 0 < m → m ≤ learnt kept edges v c u → HappensBefore h (part m u) (part l v)
  unfolding KeptTrue
  learnt_true n kept edges c v u m l of_kept come leads known some has =
      elim (comes kept v edges c u m has) [
        | inl held ↦ known held
        | inr found ↦ elim (of_kept found.0.event found.0.source u m (come found.0 found.1) some found.3) [
          | inl itself ↦
              let same : part found.0.event found.0.source ≡ part m u = cc (itself.0, itself.1) in
              subst (λ p. HappensBefore h p (part l v)) same (leads found.0 found.1 found.2)
          | inr before ↦ chain before (leads found.0 found.1 found.2)
        ]
      ]

  -- where an edge leads
  leads_later : (n l v : ℕ) (e : Edge) → Contains (moment_of h n).edges e → e.target ≡ v → n < l → HappensBefore h (part e.event e.source) (part l v)
  leads_later n l v e held to later = subst (λ w. HappensBefore h (part e.event e.source) (part l w)) to (edge held later)

  leads_now : (n l v : ℕ) (e : Edge) → Contains (moment_of h n).edges e → e.target ≡ v → is_stepper (moment_of h n).stepper v ≡ true → n ≤ l →
      HappensBefore h (part e.event e.source) (part l v)
  leads_now n l v e held to is from =
      elim (cases_lt n l) [
        | inl later ↦ leads_later n l v e held to later
        | inr same ↦
            let now : n ≡ l = omega arith in
            let steps : (moment_of h n).stepper ≡ Some e.target = stepper_is (moment_of h n).stepper v is ∙ ap Some (sym to) in
            let here : HappensBefore h (part e.event e.source) (part n e.target) = edge_now held steps in
            let ends : part n e.target ≡ part l v = cc in
            subst (λ p. HappensBefore h (part e.event e.source) p) ends here
      ]

  module _ (n : ℕ) (c : Clocks) (come : (e : Edge) → Contains (moment_of h n).edges e → e.event ≤ n) where
    inside_true : KnowsTrue n c.knows → KeptTrue (suc n) (with_parts n c.knows c.kept) → KnowsTrue n (knows_in n (moment_of h n) c)
    unfolding KnowsTrue
    inside_true known sources v u m l some has from = inside (is_stepper (moment_of h n).stepper v) refl has where
      inside : (b : Bool) → is_stepper (moment_of h n).stepper v ≡ b →
          m ≤ (if b then learnt (with_parts n c.knows c.kept) (moment_of h n).edges v (c.knows v) else c.knows v) u → HappensBefore h (part m u) (part l v)
      inside false is has = known v u m l some has from
      inside true is has = learnt_true (suc n) _ (moment_of h n).edges (c.knows v) v u m l sources (λ e held. omega (arith, come e held))
          (λ e held to. leads_now n l v e held to is from) (λ held. known v u m l some held from) some has

    after_true : (knows : ℕ → Clock) (kept : ℕ → ℕ → Clock) → KnowsTrue n knows → KeptTrue (suc n) kept → KnowsTrue (suc n) (knows_after (moment_of h n) kept knows)
    unfolding KnowsTrue
    after_true knows kept known of_kept v u m l some has from = after (is_stepper (moment_of h n).stepper v) has where
      after : (b : Bool) → m ≤ (if b then knows v else learnt kept (moment_of h n).edges v (knows v)) u → HappensBefore h (part m u) (part l v)
      after true has = known v u m l some has (omega arith)
      after false has = learnt_true (suc n) kept (moment_of h n).edges (knows v) v u m l of_kept (λ e held. omega (arith, come e held))
          (λ e held to. leads_later n l v e held to (omega arith)) (λ held. known v u m l some held (omega arith)) some has

  clocks_true : IsHistory h → (n : ℕ) → KnowsTrue (suc n) (clocks_after h n).knows × KeptTrue (suc n) (clocks_after h n).kept
  unfolding clocks_after KnowsTrue KeptTrue
  clocks_true sound zero = (λ v u m l some has from. absurd (omega arith), λ k v u m before some has. absurd (omega arith))
  clocks_true sound (suc n) =
      let m : Moment = moment_of h (suc n) in
      let c : Clocks = clocks_after h n in
      let before : KnowsTrue (suc n) c.knows × KeptTrue (suc n) c.kept = clocks_true sound n in
      let sources : KeptTrue (suc (suc n)) (with_parts (suc n) c.knows c.kept) = parts_true (suc n) c.knows c.kept before.0 before.1 in
      let inside : KnowsTrue (suc n) (knows_in (suc n) m c) = inside_true (suc n) c (sound (suc n)) before.0 sources in
      let kept : KeptTrue (suc (suc n)) (with_parts (suc n) (knows_in (suc n) m c) c.kept) = parts_true (suc n) (knows_in (suc n) m c) c.kept inside before.1 in
      (after_true (suc n) c (sound (suc n)) (knows_in (suc n) m c) _ inside kept, kept)

  -- in the clock of a part is nothing else of other processes
  pub has_before : IsHistory h → (m u n v : ℕ) → 0 < m → u ≢ v → m ≤ clock_of h n v u → HappensBefore h (part m u) (part n v)
  unfolding KeptTrue
  has_before sound m u n v some other has =
      elim ((clocks_true sound n).1 n v u m (omega arith) some has) [
        | inl itself ↦ absurd (other itself.1)
        | inr before ↦ before
      ]
