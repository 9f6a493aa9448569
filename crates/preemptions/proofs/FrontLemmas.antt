-- Placements that change the front of a schedule alone.
use Rattle.std.proofs.Common.{◌≡◌, ◌∙◌, ℕ, zero, suc, cond, ◌+◌, ◌<◌, ◌≤◌, List, [], ◌∷◌, ◌++◌, length, take, drop, refl, sym, ap, arith, append-nil}
use Rattle.std.specs.List.{All, count_by}
use Rattle.std.proofs.lemmas.List.Sums.{sum_by-cons}
use Rattle.std.proofs.lemmas.List.Elements.{All-head, All-tail, All-weaker}
use Rattle.xinu_base.specs.declared.events.Event.{Event}
use Rattle.xinu_base.specs.declared.events.Event.TheVariants.{Step, Tick, Key, Tx, Disk0, Disk1, Fail0, Fail1, Dump}
use Rattle.preemptions.specs.Placements.{IsPlacement}
use Rattle.preemptions.specs.declared.stretches.Stretch.{Stretch}
use Rattle.preemptions.specs.Preempted.{is_step, preempted, preempted_at}

pub count_step : (events : List Event) → count_by is_step (Step ∷ events) ≡ 1 + count_by is_step events
count_step events = sum_by-cons (λ (e : Event). cond (is_step e) 1 0) Step events

-- a preemption is no step
steps_kept : (k : ℕ) (events : List Event) → count_by is_step (preempted k events) ≡ count_by is_step events
unfolding preempted
steps_kept zero [] = refl
steps_kept (suc k) [] = refl
steps_kept zero (Step ∷ events) = refl
steps_kept (suc k) (Step ∷ events) =
    count_step (preempted k events) ∙ ap (λ (n : ℕ). 1 + n) (steps_kept k events) ∙ sym (count_step events)
steps_kept zero (Tick ∷ events) = steps_kept zero events
steps_kept (suc k) (Tick ∷ events) = steps_kept (suc k) events
steps_kept zero ((Key b) ∷ events) = steps_kept zero events
steps_kept (suc k) ((Key b) ∷ events) = steps_kept (suc k) events
steps_kept zero (Tx ∷ events) = steps_kept zero events
steps_kept (suc k) (Tx ∷ events) = steps_kept (suc k) events
steps_kept zero (Disk0 ∷ events) = steps_kept zero events
steps_kept (suc k) (Disk0 ∷ events) = steps_kept (suc k) events
steps_kept zero (Disk1 ∷ events) = steps_kept zero events
steps_kept (suc k) (Disk1 ∷ events) = steps_kept (suc k) events
steps_kept zero (Fail0 ∷ events) = steps_kept zero events
steps_kept (suc k) (Fail0 ∷ events) = steps_kept (suc k) events
steps_kept zero (Fail1 ∷ events) = steps_kept zero events
steps_kept (suc k) (Fail1 ∷ events) = steps_kept (suc k) events
steps_kept zero (Dump ∷ events) = steps_kept zero events
steps_kept (suc k) (Dump ∷ events) = steps_kept (suc k) events

pub steps_kept_at : (places : List ℕ) (events : List Event) → count_by is_step (preempted_at places events) ≡ count_by is_step events
steps_kept_at [] events = refl
steps_kept_at (k ∷ places) events = steps_kept k (preempted_at places events) ∙ steps_kept_at places events

-- a preemption before one of the steps of the front
preempted_front : (k : ℕ) (front back : List Event) → k < count_by is_step front → preempted k (front ++ back) ≡ preempted k front ++ back
unfolding preempted
preempted_front zero [] back few = absurd (omega (arith, few))
preempted_front (suc k) [] back few = absurd (omega (arith, few))
preempted_front zero (Step ∷ front) back few = refl
preempted_front (suc k) (Step ∷ front) back few = ap (λ (es : List Event). Step ∷ es) (preempted_front k front back (omega (arith, few, count_step front)))
preempted_front zero (Tick ∷ front) back few = ap (λ (es : List Event). Tick ∷ es) (preempted_front zero front back few)
preempted_front (suc k) (Tick ∷ front) back few = ap (λ (es : List Event). Tick ∷ es) (preempted_front (suc k) front back few)
preempted_front zero ((Key b) ∷ front) back few = ap (λ (es : List Event). Key b ∷ es) (preempted_front zero front back few)
preempted_front (suc k) ((Key b) ∷ front) back few = ap (λ (es : List Event). Key b ∷ es) (preempted_front (suc k) front back few)
preempted_front zero (Tx ∷ front) back few = ap (λ (es : List Event). Tx ∷ es) (preempted_front zero front back few)
preempted_front (suc k) (Tx ∷ front) back few = ap (λ (es : List Event). Tx ∷ es) (preempted_front (suc k) front back few)
preempted_front zero (Disk0 ∷ front) back few = ap (λ (es : List Event). Disk0 ∷ es) (preempted_front zero front back few)
preempted_front (suc k) (Disk0 ∷ front) back few = ap (λ (es : List Event). Disk0 ∷ es) (preempted_front (suc k) front back few)
preempted_front zero (Disk1 ∷ front) back few = ap (λ (es : List Event). Disk1 ∷ es) (preempted_front zero front back few)
preempted_front (suc k) (Disk1 ∷ front) back few = ap (λ (es : List Event). Disk1 ∷ es) (preempted_front (suc k) front back few)
preempted_front zero (Fail0 ∷ front) back few = ap (λ (es : List Event). Fail0 ∷ es) (preempted_front zero front back few)
preempted_front (suc k) (Fail0 ∷ front) back few = ap (λ (es : List Event). Fail0 ∷ es) (preempted_front (suc k) front back few)
preempted_front zero (Fail1 ∷ front) back few = ap (λ (es : List Event). Fail1 ∷ es) (preempted_front zero front back few)
preempted_front (suc k) (Fail1 ∷ front) back few = ap (λ (es : List Event). Fail1 ∷ es) (preempted_front (suc k) front back few)
preempted_front zero (Dump ∷ front) back few = ap (λ (es : List Event). Dump ∷ es) (preempted_front zero front back few)
preempted_front (suc k) (Dump ∷ front) back few = ap (λ (es : List Event). Dump ∷ es) (preempted_front (suc k) front back few)

preempted_at_front : (within : ℕ) (places : List ℕ) (front back : List Event) → All (λ k. k ≤ within) places → within < count_by is_step front
    → preempted_at places (front ++ back) ≡ preempted_at places front ++ back
preempted_at_front within [] front back inside few = refl
preempted_at_front within (k ∷ places) front back inside few =
    let k_inside : k ≤ within = All-head (λ (k : ℕ). k ≤ within) k places inside in
    ap (λ (es : List Event). preempted k es) (preempted_at_front within places front back (All-tail (λ (k : ℕ). k ≤ within) k places inside) few)
    ∙ preempted_front k (preempted_at places front) back (omega (arith, k_inside, few, steps_kept_at places front))

take_and_drop : (n : ℕ) (events : List Event) → take n events ++ drop n events ≡ events
take_and_drop zero events = refl
take_and_drop (suc n) [] = refl
take_and_drop (suc n) (e ∷ events) = ap (λ (es : List Event). e ∷ es) (take_and_drop n events)

-- a placement changes a front with more steps than those within which it is
front_with_steps : (n : ℕ) (s : Stretch) (base : List Event) → s.within < count_by is_step (take n base) → (most : ℕ) (places : List ℕ) → IsPlacement most s places
    → preempted_at places base ≡ preempted_at places (take n base) ++ drop n base
front_with_steps n s base few most places is =
    ap (λ (es : List Event). preempted_at places es) (sym (take_and_drop n base))
    ∙ preempted_at_front s.within places (take n base) (drop n base)
    (All-weaker (λ k. (s.after < k) × (k ≤ s.within)) (λ k. k ≤ s.within) (λ k i. i.1) places is.inside) few

-- a longer front has no fewer steps
more_steps : (m n : ℕ) (events : List Event) → m ≤ n → count_by is_step (take m events) ≤ count_by is_step (take n events)
more_steps zero n events less = omega (arith)
more_steps (suc m) zero events less = absurd (omega (arith, less))
more_steps (suc m) (suc n) [] less = omega (arith)
more_steps (suc m) (suc n) (e ∷ events) less =
    omega (
      arith,
      sum_by-cons (λ (e : Event). cond (is_step e) 1 0) e (take m events),
      sum_by-cons (λ (e : Event). cond (is_step e) 1 0) e (take n events),
      more_steps m n events (omega (arith, less)),
    )

-- and so does any longer one
pub longer_with_steps : (m n : ℕ) (s : Stretch) (base : List Event) → s.within < count_by is_step (take m base) → (most : ℕ) (places : List ℕ) → m ≤ n
    → IsPlacement most s places
    → preempted_at places base ≡ preempted_at places (take n base) ++ drop n base
longer_with_steps m n s base few most places less is =
    front_with_steps n s base (omega (arith, few, more_steps m n base less)) most places is

take_all_of : (n : ℕ) (events : List Event) → length events ≤ n → take n events ≡ events
take_all_of zero [] all = refl
take_all_of zero (e ∷ events) all = absurd (omega (arith, all))
take_all_of (suc n) [] all = refl
take_all_of (suc n) (e ∷ events) all = ap (λ (es : List Event). e ∷ es) (take_all_of n events (omega (arith, all)))

drop_all_of : (n : ℕ) (events : List Event) → length events ≤ n → drop n events ≡ []
drop_all_of zero [] all = refl
drop_all_of zero (e ∷ events) all = absurd (omega (arith, all))
drop_all_of (suc n) [] all = refl
drop_all_of (suc n) (e ∷ events) all = drop_all_of n events (omega (arith, all))

-- all events are a front
pub front_of_all : (n : ℕ) (base : List Event) (places : List ℕ) → length base ≤ n → preempted_at places base ≡ preempted_at places (take n base) ++ drop n base
front_of_all n base places all = rw (take_all_of n base all, drop_all_of n base all, append-nil (preempted_at places base)) refl
