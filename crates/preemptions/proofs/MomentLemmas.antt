-- Events before a step, counted from the front.
use Rattle.std.proofs.Common.{◌≡◌, ◌∙◌, ℕ, zero, suc, ◌+◌, ◌-◌, ◌<◌, true, false, List, [], ◌∷◌, length, drop, get_or, refl, ap, arith}
use Rattle.std.proofs.lemmas.List.{drop_all, drop_more}
use Rattle.xinu_base.specs.declared.events.Event.{Event}
use Rattle.xinu_base.specs.declared.events.Event.TheVariants.{Step, Tick, Key, Tx, Disk0, Disk1, Fail0, Fail1, Dump}
use Rattle.preemptions.specs.Moments.{events_before}
use Rattle.preemptions.specs.Preempted.{is_step}

pub before-nil : (k : ℕ) → events_before k [] ≡ 0
unfolding events_before
before-nil zero = refl
before-nil (suc k) = refl

pub before-zero : (event : Event) (events : List Event) → is_step event ≡ true → events_before 0 (event ∷ events) ≡ 0
unfolding events_before
before-zero Step events step = refl
before-zero Tick events step = absurd (cc)
before-zero (Key b) events step = absurd (cc)
before-zero Tx events step = absurd (cc)
before-zero Disk0 events step = absurd (cc)
before-zero Disk1 events step = absurd (cc)
before-zero Fail0 events step = absurd (cc)
before-zero Fail1 events step = absurd (cc)
before-zero Dump events step = absurd (cc)

pub before-suc : (k : ℕ) (event : Event) (events : List Event) → is_step event ≡ true → events_before (suc k) (event ∷ events) ≡ 1 + events_before k events
unfolding events_before
before-suc k Step events step = refl
before-suc k Tick events step = absurd (cc)
before-suc k (Key b) events step = absurd (cc)
before-suc k Tx events step = absurd (cc)
before-suc k Disk0 events step = absurd (cc)
before-suc k Disk1 events step = absurd (cc)
before-suc k Fail0 events step = absurd (cc)
before-suc k Fail1 events step = absurd (cc)
before-suc k Dump events step = absurd (cc)

before-other_zero : (event : Event) (events : List Event) → is_step event ≡ false → events_before 0 (event ∷ events) ≡ 1 + events_before 0 events
unfolding events_before
before-other_zero Step events other = absurd (cc)
before-other_zero Tick events other = refl
before-other_zero (Key b) events other = refl
before-other_zero Tx events other = refl
before-other_zero Disk0 events other = refl
before-other_zero Disk1 events other = refl
before-other_zero Fail0 events other = refl
before-other_zero Fail1 events other = refl
before-other_zero Dump events other = refl

before-other_suc : (k : ℕ) (event : Event) (events : List Event) → is_step event ≡ false → events_before (suc k) (event ∷ events) ≡ 1 + events_before (suc k) events
unfolding events_before
before-other_suc k Step events other = absurd (cc)
before-other_suc k Tick events other = refl
before-other_suc k (Key b) events other = refl
before-other_suc k Tx events other = refl
before-other_suc k Disk0 events other = refl
before-other_suc k Disk1 events other = refl
before-other_suc k Fail0 events other = refl
before-other_suc k Fail1 events other = refl
before-other_suc k Dump events other = refl

pub before-other : (k : ℕ) (event : Event) (events : List Event) → is_step event ≡ false → events_before k (event ∷ events) ≡ 1 + events_before k events
before-other zero event events other = before-other_zero event events other
before-other (suc k) event events other = before-other_suc k event events other

-- ---- one event after another

pub here : (base : List Event) (i : ℕ) → i < length base → drop i base ≡ get_or base i Step ∷ drop (i + 1) base
here base i inside = drop_more base i Step inside

-- the step was found
pub before-found : (k i passed : ℕ) (base : List Event) → events_before k base ≡ i + events_before (k - passed) (drop i base) → i < length base
    → is_step (get_or base i Step) ≡ true → passed ≡ k → i ≡ events_before k base
before-found k i passed base so_far inside step found =
    let none : k - passed ≡ 0 = omega (arith, found) in
    let at : events_before (k - passed) (drop i base) ≡ 0 =
    ap (λ (n : ℕ). events_before n (drop i base)) none ∙ ap (events_before 0) (here base i inside) ∙ before-zero (get_or base i Step) (drop (i + 1) base) step in
    omega (arith, so_far, at)

-- one more step is passed
pub before-step : (k i passed : ℕ) (base : List Event) → events_before k base ≡ i + events_before (k - passed) (drop i base) → i < length base
    → is_step (get_or base i Step) ≡ true → passed < k → events_before k base ≡ (i + 1) + events_before (k - (passed + 1)) (drop (i + 1) base)
before-step k i passed base so_far inside step more =
    let left : k - passed ≡ suc (k - (passed + 1)) = omega (arith, more) in
    let at : events_before (k - passed) (drop i base) ≡ 1 + events_before (k - (passed + 1)) (drop (i + 1) base) =
    ap (λ (n : ℕ). events_before n (drop i base)) left ∙ ap (events_before (suc (k - (passed + 1)))) (here base i inside)
    ∙ before-suc (k - (passed + 1)) (get_or base i Step) (drop (i + 1) base) step in
    omega (arith, so_far, at)

-- another event is passed
pub before-pass : (k i passed : ℕ) (base : List Event) → events_before k base ≡ i + events_before (k - passed) (drop i base) → i < length base
    → is_step (get_or base i Step) ≡ false → events_before k base ≡ (i + 1) + events_before (k - passed) (drop (i + 1) base)
before-pass k i passed base so_far inside other =
    let at : events_before (k - passed) (drop i base) ≡ 1 + events_before (k - passed) (drop (i + 1) base) =
    ap (events_before (k - passed)) (here base i inside) ∙ before-other (k - passed) (get_or base i Step) (drop (i + 1) base) other in
    omega (arith, so_far, at)

-- no event is left
pub before-end : (k i passed : ℕ) (base : List Event) → events_before k base ≡ i + events_before (k - passed) (drop i base) → i ≡ length base
    → length base ≡ events_before k base
before-end k i passed base so_far all =
    let at : events_before (k - passed) (drop i base) ≡ 0 =
    ap (events_before (k - passed)) (drop_all i base (omega (arith, all))) ∙ before-nil (k - passed) in
    omega (arith, so_far, at, all)
