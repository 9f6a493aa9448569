-- Events gone through once, with the places that are still ahead.
use Rattle.std.proofs.Common.{◌≡◌, ◌∙◌, ℕ, zero, suc, ◌+◌, ◌-◌, ◌<◌, ◌≤◌, true, false, List, [], ◌∷◌, ◌++◌, ◌≢◌, length, take, drop, get_or, refl, sym, ap, arith, append_assoc}
use Rattle.std.specs.List.{All}
use Rattle.std.proofs.lemmas.List.Elements.{All-cons, All-head, All-tail}
use Rattle.std.proofs.lemmas.List.{take_all}
use Rattle.xinu_base.specs.declared.events.Event.{Event}
use Rattle.xinu_base.specs.declared.events.Event.TheVariants.{Step, Tick, Key, Tx, Disk0, Disk1, Fail0, Fail1, Dump}
use Rattle.preemptions.specs.Placements.{IsAscending}
use Rattle.preemptions.specs.Preempted.{is_step, preempted, preempted_at}
use Rattle.preemptions.specs.Passes.{preempted_after, AreAhead, Steps}

-- ---- the definition, one step

pub preempted-nil : (k : ℕ) → preempted k [] ≡ []
unfolding preempted
preempted-nil zero = refl
preempted-nil (suc k) = refl

pub preempted-zero : (events : List Event) → preempted 0 (Step ∷ events) ≡ Tick ∷ Tick ∷ Step ∷ events
unfolding preempted
preempted-zero events = refl

pub preempted-suc : (k : ℕ) (events : List Event) → preempted (suc k) (Step ∷ events) ≡ Step ∷ preempted k events
unfolding preempted
preempted-suc k events = refl

preempted-zero_other : (event : Event) (events : List Event) → is_step event ≡ false → preempted 0 (event ∷ events) ≡ event ∷ preempted 0 events
unfolding preempted
preempted-zero_other Tick events other = refl
preempted-zero_other (Key b) events other = refl
preempted-zero_other Tx events other = refl
preempted-zero_other Disk0 events other = refl
preempted-zero_other Disk1 events other = refl
preempted-zero_other Fail0 events other = refl
preempted-zero_other Fail1 events other = refl
preempted-zero_other Dump events other = refl
preempted-zero_other Step events other = absurd (cc)

preempted-suc_other : (k : ℕ) (event : Event) (events : List Event) → is_step event ≡ false → preempted (suc k) (event ∷ events) ≡ event ∷ preempted (suc k) events
unfolding preempted
preempted-suc_other k Tick events other = refl
preempted-suc_other k (Key b) events other = refl
preempted-suc_other k Tx events other = refl
preempted-suc_other k Disk0 events other = refl
preempted-suc_other k Disk1 events other = refl
preempted-suc_other k Fail0 events other = refl
preempted-suc_other k Fail1 events other = refl
preempted-suc_other k Dump events other = refl
preempted-suc_other k Step events other = absurd (cc)

pub preempted-other : (k : ℕ) (event : Event) (events : List Event) → is_step event ≡ false → preempted k (event ∷ events) ≡ event ∷ preempted k events
preempted-other zero event events other = preempted-zero_other event events other
preempted-other (suc k) event events other = preempted-suc_other k event events other

-- ---- places behind some steps

-- at the start
pub preempted_after-start : (places : List ℕ) (events : List Event) → preempted_after 0 places events ≡ preempted_at places events
preempted_after-start [] events = refl
preempted_after-start (k ∷ places) events =
    let same : k - 0 ≡ k = omega arith in
    ap (λ (m : ℕ). preempted m (preempted_after 0 places events)) same ∙ ap (preempted k) (preempted_after-start places events)

-- at the end
pub preempted_after-end : (steps : ℕ) (places : List ℕ) → preempted_after steps places [] ≡ []
preempted_after-end steps [] = refl
preempted_after-end steps (k ∷ places) = ap (preempted (k - steps)) (preempted_after-end steps places) ∙ preempted-nil (k - steps)

-- another event than a step
pub preempted_after-other : (steps : ℕ) (places : List ℕ) (event : Event) (events : List Event) → is_step event ≡ false
    → preempted_after steps places (event ∷ events) ≡ event ∷ preempted_after steps places events
preempted_after-other steps [] event events other = refl
preempted_after-other steps (k ∷ places) event events other =
    ap (preempted (k - steps)) (preempted_after-other steps places event events other)
    ∙ preempted-other (k - steps) event (preempted_after steps places events) other

-- a step ahead of all places
pub preempted_after-step : (steps : ℕ) (places : List ℕ) (events : List Event) → All (λ k. steps < k) places
    → preempted_after steps places (Step ∷ events) ≡ Step ∷ preempted_after (steps + 1) places events
preempted_after-step steps [] events ahead = refl
preempted_after-step steps (k ∷ places) events ahead =
    let first : steps < k = All-head (λ j. steps < j) k places ahead in
    let one : k - steps ≡ suc (k - (steps + 1)) = omega arith in
    ap (preempted (k - steps)) (preempted_after-step steps places events (All-tail (λ j. steps < j) k places ahead))
    ∙ ap (λ (m : ℕ). preempted m (Step ∷ preempted_after (steps + 1) places events)) one
    ∙ preempted-suc (k - (steps + 1)) (preempted_after (steps + 1) places events)

-- a step at the first place
pub preempted_after-place : (steps k : ℕ) (places : List ℕ) (events : List Event) → k ≡ steps → All (λ j. k < j) places
    → preempted_after steps (k ∷ places) (Step ∷ events) ≡ Tick ∷ Tick ∷ Step ∷ preempted_after (steps + 1) places events
preempted_after-place steps k places events here ahead =
    let none : k - steps ≡ 0 = omega arith in
    let further : All (λ j. steps < j) places = λ j d within. omega (arith, ahead j d within) in
    ap (λ (m : ℕ). preempted m (preempted_after steps places (Step ∷ events))) none
    ∙ ap (preempted 0) (preempted_after-step steps places events further)
    ∙ preempted-zero (preempted_after (steps + 1) places events)

-- ---- which places are ahead

pub all_ahead : (places : List ℕ) → IsAscending places → AreAhead 0 places
all_ahead places ascending = record { ascending = ascending; ahead = λ k d within. omega arith }

-- a number below the first of ascending places is below all of them
above_first : (steps k : ℕ) (places : List ℕ) → steps < k → IsAscending (k ∷ places) → All (λ j. steps < j) (k ∷ places)
above_first steps k places below ascending =
    All-cons (λ j. steps < j) k places below (λ i d within. omega (arith, below, ascending.0 i d within))

after_step : (steps : ℕ) (places : List ℕ) → IsAscending places → All (λ k. steps < k) places → AreAhead (steps + 1) places
after_step steps places ascending above = record { ascending = ascending; ahead = λ i d within. omega (arith, above i d within) }

-- ---- a step, by whether it is at the first place

pub steps_none : (steps : ℕ) (before : List Event) → Steps steps [] [] before (before ++ Step ∷ [])
steps_none steps before = record {
  appended = λ events. append_assoc before (Step ∷ []) events;
  ahead = record { ascending = tt; ahead = λ k d within. absurd (omega arith) };
}

pub steps_before : (steps k : ℕ) (places : List ℕ) (before : List Event) → AreAhead steps (k ∷ places) → (k ≡ steps → ⊥)
    → Steps steps (k ∷ places) (k ∷ places) before (before ++ Step ∷ [])
steps_before steps k places before are other =
    let at : steps ≤ k = All-head (λ j. steps ≤ j) k places are.ahead in
    let below : steps < k = omega arith in
    let above = above_first steps k places below are.ascending in
    record {
      appended = λ events.
          append_assoc before (Step ∷ []) (preempted_after (steps + 1) (k ∷ places) events)
          ∙ ap (λ (more : List Event). before ++ more) (sym (preempted_after-step steps (k ∷ places) events above));
      ahead = after_step steps (k ∷ places) are.ascending above;
    }

pub steps_at : (steps k : ℕ) (places : List ℕ) (before : List Event) → AreAhead steps (k ∷ places) → k ≡ steps
    → Steps steps (k ∷ places) places before (before ++ Tick ∷ Tick ∷ Step ∷ [])
steps_at steps k places before are here =
    record {
      appended = λ events.
          append_assoc before (Tick ∷ Tick ∷ Step ∷ []) (preempted_after (steps + 1) places events)
          ∙ ap (λ (more : List Event). before ++ more) (sym (preempted_after-place steps k places events here are.ascending.0));
      ahead = after_step steps places are.ascending.1 (λ i d within. omega (arith, here, are.ascending.0 i d within));
    }

-- the only step
pub is_step-step : (event : Event) → is_step event ≡ true → event ≡ Step
is_step-step Step is = refl
is_step-step event is = absurd (cc)

-- ---- the same of places of which the first is looked at

pub takes_none : (steps : ℕ) (places : List ℕ) (before after : List Event) → length places < 1 → after ≡ before ++ Step ∷ []
    → Steps steps places places before after
takes_none steps [] before after none is = rw is (steps_none steps before)
takes_none steps (k ∷ places) before after none is = absurd (omega arith)

pub takes_before : (steps : ℕ) (places : List ℕ) (before after : List Event) → AreAhead steps places → 1 ≤ length places → get_or places 0 0 ≢ steps
    → after ≡ before ++ Step ∷ [] → Steps steps places places before after
takes_before steps [] before after are some other is = absurd (omega arith)
takes_before steps (k ∷ places) before after are some other is = rw is (steps_before steps k places before are other)

pub takes_first : (steps : ℕ) (places : List ℕ) (before one two after : List Event) → AreAhead steps places → 1 ≤ length places
    → get_or places 0 0 ≡ steps → one ≡ before ++ Tick ∷ [] → two ≡ one ++ Tick ∷ [] → after ≡ two ++ Step ∷ []
    → Steps steps places (take (length places - 1) (drop 1 places)) before after
takes_first steps [] before one two after are some here is_one is_two is = absurd (omega arith)
takes_first steps (k ∷ places) before one two after are some here is_one is_two is =
    let size : length (k ∷ places) - 1 ≡ length places = omega arith in
    let left : take (length (k ∷ places) - 1) places ≡ places = ap (λ (n : ℕ). take n places) size ∙ take_all (length places) places (omega arith) in
    let whole : after ≡ before ++ Tick ∷ Tick ∷ Step ∷ [] =
    is ∙ ap (λ (front : List Event). front ++ Step ∷ []) (is_two ∙ ap (λ (front : List Event). front ++ Tick ∷ []) is_one)
    ∙ append_assoc (before ++ Tick ∷ []) (Tick ∷ []) (Step ∷ []) ∙ append_assoc before (Tick ∷ []) (Tick ∷ Step ∷ []) in
    rw (left, whole) (steps_at steps k places before are here)
