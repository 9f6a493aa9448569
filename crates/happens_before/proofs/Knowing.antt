-- What comes before is in the clock.
use Rattle.std.proofs.Common.{◌≡◌, ◌≢◌, ℕ, zero, suc, ◌≤◌, ◌<◌, if◌then◌else◌, Bool, true, false, inl, inr, List, Some, refl, sym, ap, subst, ◌∙◌, arith}
use Rattle.std.specs.List.{Contains}
use Rattle.std.proofs.lemmas.Bool.{cases_lt}
use Rattle.std.proofs.lemmas.Bool.Decides.{eqb_tells}
use Rattle.happens_before.specs.Clocks.{Clock, Clocks, clock_of, clocks_after, knows_after, knows_in, learnt, own, with_parts}
use Rattle.happens_before.specs.Histories.{Edge, IsHistory, Moment, is_stepper, moment_of}
use Rattle.happens_before.specs.Order.{HappensBefore, program, edge, edge_now, chain, Part}
use Rattle.happens_before.proofs.Bounds.{bounded}
use Rattle.happens_before.proofs.Joins.{brings, grows}
use Rattle.happens_before.proofs.Parts.{own_other, own_self, parts_before, parts_now}
use Rattle.happens_before.proofs.Stepping.{is_another, is_the_stepper, stepper_is}

-- In one event a process learns, and forgets nothing.
module _ (n : ℕ) (m : Moment) (c : Clocks) (v w : ℕ) where
  in_grows : c.knows v w ≤ knows_in n m c v w
  in_grows =
      elim (is_stepper m.stepper v) as (λ b. c.knows v w ≤ (if b then learnt (with_parts n c.knows c.kept) m.edges v (c.knows v) else c.knows v) w) [
        | true ↦ grows _ v m.edges (c.knows v) w
        | false ↦ omega arith
      ]

  after_grows : (kept : ℕ → ℕ → Clock) (knows : ℕ → Clock) → knows v w ≤ knows_after m kept knows v w
  after_grows kept knows =
      elim (is_stepper m.stepper v) as (λ b. knows v w ≤ (if b then knows v else learnt kept m.edges v (knows v)) w) [
        | true ↦ omega arith
        | false ↦ grows kept v m.edges (knows v) w
      ]

  -- the one that steps learns at once, the others afterwards
  steps_learns : (e : Edge) → is_stepper m.stepper v ≡ true → Contains m.edges e → e.target ≡ v → with_parts n c.knows c.kept e.event e.source w ≤ knows_in n m c v w
  steps_learns e is held to = rw is (brings (with_parts n c.knows c.kept) v m.edges (c.knows v) w e held to)

  waits_learns : (kept : ℕ → ℕ → Clock) (knows : ℕ → Clock) (e : Edge) → is_stepper m.stepper v ≡ false → Contains m.edges e → e.target ≡ v →
      kept e.event e.source w ≤ knows_after m kept knows v w
  waits_learns kept knows e is held to = rw is (brings kept v m.edges (knows v) w e held to)

module _ (h : List Moment) where
  -- what a process knows in event n + 1
  abbrev inside : ℕ → ℕ → Clock
  inside n v = knows_in (suc n) (moment_of h (suc n)) (clocks_after h n) v

  -- a part's clock has the part itself
  pub own_component : (n u : ℕ) → clock_of h n u u ≡ n
  unfolding clocks_after
  own_component zero u = refl
  own_component (suc n) u = ap (λ c. c u) (parts_now (suc n) (inside n) (clocks_after h n).kept u) ∙ own_self (suc n) u (inside n u)

  -- and what its process knows in the event of others
  clock_is : (n v w : ℕ) → w ≢ v → clock_of h (suc n) v w ≡ inside n v w
  unfolding clocks_after
  clock_is n v w other = ap (λ c. c w) (parts_now (suc n) (inside n) (clocks_after h n).kept v) ∙ own_other (suc n) v (inside n v) w other

  -- it stays
  pub kept_stays : (n k v : ℕ) → k ≤ n → (clocks_after h n).kept k v ≡ clock_of h k v
  unfolding clocks_after
  kept_stays zero k v before = let same : zero ≡ k = omega arith in subst (λ j. (clocks_after h zero).kept j v ≡ clock_of h j v) same refl
  kept_stays (suc n) k v before =
      elim (cases_lt k (suc n)) [
        | inl less ↦ parts_before (suc n) (inside n) (clocks_after h n).kept k v less ∙ kept_stays n k v (omega arith)
        | inr now ↦ let same : suc n ≡ k = omega arith in subst (λ j. (clocks_after h (suc n)).kept j v ≡ clock_of h j v) same refl
      ]

  known_later : (n v w : ℕ) → w ≢ v → (clocks_after h n).knows v w ≤ clock_of h (suc n) v w
  known_later n v w other = rw (clock_is n v w other) (in_grows (suc n) (moment_of h (suc n)) (clocks_after h n) v w)

  remembered : (n v w : ℕ) → w ≢ v → clock_of h n v w ≤ (clocks_after h n).knows v w
  unfolding clocks_after
  remembered zero v w other = omega arith
  remembered (suc n) v w other =
      rw (clock_is n v w other) (after_grows (suc n) (moment_of h (suc n)) (clocks_after h n) v w _ (inside n))

  knows_grow : (n l v w : ℕ) → w ≢ v → n ≤ l → (clocks_after h n).knows v w ≤ (clocks_after h l).knows v w
  knows_grow n zero v w other from = let same : zero ≡ n = omega arith in subst (λ k. (clocks_after h k).knows v w ≤ (clocks_after h zero).knows v w) same (omega arith)
  knows_grow n (suc l) v w other from =
      elim (cases_lt n (suc l)) [
        | inl less ↦ omega (arith, knows_grow n l v w other (omega arith), known_later l v w other, remembered (suc l) v w other)
        | inr now ↦ let same : suc l ≡ n = omega arith in subst (λ k. (clocks_after h k).knows v w ≤ (clocks_after h (suc l)).knows v w) same (omega arith)
      ]

  -- what a process knows after an event, it knows in its later parts
  knows_on : (n l v w : ℕ) → w ≢ v → n < l → (clocks_after h n).knows v w ≤ clock_of h l v w
  knows_on n zero v w other from = absurd (omega arith)
  knows_on n (suc l) v w other from = omega (arith, knows_grow n l v w other (omega arith), known_later l v w other)

  own_order : (m n u w : ℕ) → m ≤ n → clock_of h m u w ≤ clock_of h n u w
  own_order m n u w upto =
      elim (eqb_tells w u) [
        | inl same ↦ subst (λ k. clock_of h m u k ≤ clock_of h n u k) (sym same.1) (omega (arith, own_component m u, own_component n u))
        | inr other ↦ elim (cases_lt m n) [
          | inl less ↦ omega (arith, remembered m u w other.1, knows_on m n u w other.1 less)
          | inr now ↦ let same : m ≡ n = omega arith in subst (λ k. clock_of h m u w ≤ clock_of h k u w) same (omega arith)
        ]
      ]

  -- the clocks of the sources of edges, as they are before the event
  sources_are : (n k u w : ℕ) → k ≤ suc n → is_stepper (moment_of h (suc n)).stepper u ≡ false →
      with_parts (suc n) (clocks_after h n).knows (clocks_after h n).kept k u w ≡ clock_of h k u w
  unfolding clocks_after
  sources_are n k u w upto waits =
      let c : Clocks = clocks_after h n in
      let same : inside n u ≡ c.knows u = rw waits in
      let here : with_parts (suc n) c.knows c.kept (suc n) u w ≡ clock_of h (suc n) u w =
      ap (λ d. d w) (parts_now (suc n) c.knows c.kept u ∙ ap (own (suc n) u) (sym same) ∙ sym (parts_now (suc n) (inside n) c.kept u)) in
      elim (cases_lt k (suc n)) [
        | inl less ↦ ap (λ d. d w) (parts_before (suc n) c.knows c.kept k u less ∙ kept_stays n k u (omega arith))
        | inr now ↦ let now : suc n ≡ k = omega arith in subst (λ j. with_parts (suc n) c.knows c.kept j u w ≡ clock_of h j u w) now here
      ]

  -- what an edge brings to a process that doesn't step
  brought_after : (n w : ℕ) (e : Edge) → Contains (moment_of h (suc n)).edges e → is_stepper (moment_of h (suc n)).stepper e.target ≡ false → e.event ≤ suc n →
      clock_of h e.event e.source w ≤ (clocks_after h (suc n)).knows e.target w
  unfolding clocks_after
  brought_after n w e held waits upto =
      omega (
        arith,
        ap (λ d. d w) (kept_stays (suc n) e.event e.source upto),
        waits_learns (suc n) (moment_of h (suc n)) (clocks_after h n) e.target w (clocks_after h (suc n)).kept (inside n) e waits held refl,
      )

  module _ (sound : IsHistory h) where
    -- An edge brings the clock of its source to the process that steps, and to the later parts of the others.
    edge_known_now : (n w : ℕ) (e : Edge) → Contains (moment_of h n).edges e → (moment_of h n).stepper ≡ Some e.target →
        clock_of h e.event e.source w ≤ clock_of h n e.target w
    edge_known_now zero w e held steps = absurd (omega (arith, held.1))
    edge_known_now (suc n) w e held steps =
        elim (eqb_tells w e.target) [
          | inl same ↦ subst (λ k. clock_of h e.event e.source k ≤ clock_of h (suc n) e.target k) (sym same.1)
              (omega (arith, (bounded h sound e.event).kept e.event e.source e.target (omega arith), own_component (suc n) e.target, sound (suc n) e held))
          | inr other ↦ elim (eqb_tells e.source e.target) [
            | inl itself ↦ subst (λ u. clock_of h e.event u w ≤ clock_of h (suc n) e.target w) (sym itself.1)
                (own_order e.event (suc n) e.target w (sound (suc n) e held))
            | inr another ↦
                let waits : is_stepper (moment_of h (suc n)).stepper e.source ≡ false =
                is_another (moment_of h (suc n)).stepper e.target e.source steps another.1 in
                let learns : is_stepper (moment_of h (suc n)).stepper e.target ≡ true = is_the_stepper (moment_of h (suc n)).stepper e.target steps in
                omega (
                  arith,
                  sources_are n e.event e.source w (sound (suc n) e held) waits,
                  clock_is n e.target w other.1,
                  steps_learns (suc n) (moment_of h (suc n)) (clocks_after h n) e.target w e learns held refl,
                )
          ]
        ]

    edge_known : (n l w : ℕ) (e : Edge) → Contains (moment_of h n).edges e → n < l → clock_of h e.event e.source w ≤ clock_of h l e.target w
    edge_known n l w e held later = known n (is_stepper (moment_of h n).stepper e.target) refl held later where
      known : (n : ℕ) (b : Bool) → is_stepper (moment_of h n).stepper e.target ≡ b → Contains (moment_of h n).edges e → n < l →
          clock_of h e.event e.source w ≤ clock_of h l e.target w
      known zero b is held later = absurd (omega (arith, held.1))
      known (suc n) true is held later = omega (arith, edge_known_now (suc n) w e held (stepper_is (moment_of h (suc n)).stepper e.target is), own_order (suc n) l e.target w (omega arith))
      known (suc n) false is held later = elim (eqb_tells w e.target) [
        | inl same ↦ subst (λ k. clock_of h e.event e.source k ≤ clock_of h l e.target k) (sym same.1)
            (omega (arith, (bounded h sound e.event).kept e.event e.source e.target (omega arith), own_component l e.target, sound (suc n) e held))
        | inr other ↦ omega (arith, brought_after n w e held is (sound (suc n) e held), knows_on (suc n) l e.target w other.1 later)
      ]

    pub order_known : {x y : Part} → HappensBefore h x y → (w : ℕ) → clock_of h x.event x.process w ≤ clock_of h y.event y.process w
    order_known (program {m} {n} {u} less) w = own_order m n u w (omega arith)
    order_known (edge {n} {l} {e} held later) w = edge_known n l w e held later
    order_known (edge_now {n} {e} held steps) w = edge_known_now n w e held steps
    order_known (chain {x} {y} {z} first second) w = omega (arith, order_known first w, order_known second w)

    -- it goes forward
    pub goes_forward : {x y : Part} → HappensBefore h x y → x.event ≤ y.event
    goes_forward {x} {y} before =
        omega (arith, order_known before x.process, own_component x.event x.process, (bounded h sound y.event).kept y.event y.process x.process (omega arith))
