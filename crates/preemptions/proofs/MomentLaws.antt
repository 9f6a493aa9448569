-- The preemptions of a placement come at its moments.
use Rattle.std.proofs.Common.{◌≡◌, ◌∙◌, ℕ, zero, suc, ◌+◌, ◌*◌, ◌<◌, ◌≤◌, Bool, false, cond, List, [], ◌∷◌, drop, refl, sym, ap, subst, arith}
use Rattle.std.specs.List.{All, count_by}
use Rattle.std.proofs.lemmas.List.Elements.{All-cons, All-head, All-nil, All-tail}
use Rattle.std.proofs.lemmas.List.Sums.{sum_by-cons}
use Rattle.xinu_base.specs.declared.events.Event.{Event}
use Rattle.xinu_base.specs.declared.events.Event.TheVariants.{Step, Tick, Key, Tx, Disk0, Disk1, Fail0, Fail1, Dump}
use Rattle.preemptions.proofs.FrontLemmas.{count_step, steps_kept_at}
use Rattle.preemptions.proofs.MomentLemmas.{before-nil, before-other, before-suc, before-zero}
use Rattle.preemptions.proofs.StepLemmas.{preempted-nil, preempted-other, preempted-suc, preempted-zero}
use Rattle.preemptions.specs.Moments.{Preempts, events_before, moments, moments_from}
use Rattle.preemptions.specs.Placements.{IsAscending}
use Rattle.preemptions.specs.Preempted.{is_step, preempted, preempted_at}

-- an event is a step, or it isn't
data Kind (event : Event) : Type 0 where
  a_step : event ≡ Step → Kind event
  other : is_step event ≡ false → Kind event

kind : (event : Event) → Kind event
kind Step = a_step refl
kind Tick = other refl
kind (Key b) = other refl
kind Tx = other refl
kind Disk0 = other refl
kind Disk1 = other refl
kind Fail0 = other refl
kind Fail1 = other refl
kind Dump = other refl

count_other : (event : Event) (events : List Event) → is_step event ≡ false → count_by is_step (event ∷ events) ≡ count_by is_step events
count_other event events apart =
    let weight : Bool → ℕ = λ b. cond b 1 0 in
    let one = sum_by-cons (λ (e : Event). weight (is_step e)) event events in
    let none : weight (is_step event) ≡ 0 = ap weight apart in
    omega (arith, one, none)

-- ---- one preemption

-- one event more before it
one_later : (m n : ℕ) (event : Event) (events : List Event) → m ≡ 1 + n → Preempts n events → Preempts m (event ∷ events)
one_later m n event events one p =
    let more : m ≡ suc n = omega (arith, one) in
    record { later = p.later; is = ap (λ (i : ℕ). drop i (event ∷ events)) more ∙ p.is }

at_step : (k : ℕ) (events : List Event) → ((j : ℕ) → j < count_by is_step events → Preempts (events_before j events) (preempted j events))
    → k < count_by is_step (Step ∷ events) → Preempts (events_before k (Step ∷ events)) (preempted k (Step ∷ events))
at_step zero events later few = record {
  later = events;
  is = ap (λ (i : ℕ). drop i (preempted 0 (Step ∷ events))) (before-zero Step events refl) ∙ preempted-zero events;
}
at_step (suc k) events later few =
    subst (λ (es : List Event). Preempts (events_before (suc k) (Step ∷ events)) es) (sym (preempted-suc k events))
    (one_later (events_before (suc k) (Step ∷ events)) (events_before k events) Step (preempted k events) (before-suc k Step events refl)
    (later k (omega (arith, few, count_step events))))

by_kind : (k : ℕ) (event : Event) (events : List Event) → Kind event
    → ((j : ℕ) → j < count_by is_step events → Preempts (events_before j events) (preempted j events))
    → k < count_by is_step (event ∷ events) → Preempts (events_before k (event ∷ events)) (preempted k (event ∷ events))
by_kind k event events (a_step is) later few =
    subst (λ (e : Event). Preempts (events_before k (e ∷ events)) (preempted k (e ∷ events))) (sym is)
    (at_step k events later (subst (λ (e : Event). k < count_by is_step (e ∷ events)) is few))
by_kind k event events (other apart) later few =
    subst (λ (es : List Event). Preempts (events_before k (event ∷ events)) es) (sym (preempted-other k event events apart))
    (one_later (events_before k (event ∷ events)) (events_before k events) event (preempted k events) (before-other k event events apart)
    (later k (omega (arith, few, count_other event events apart))))

-- a preemption comes where its step was
preempts_at : (events : List Event) (k : ℕ) → k < count_by is_step events → Preempts (events_before k events) (preempted k events)
preempts_at [] k few = absurd (omega (arith, few))
preempts_at (event ∷ events) k few = by_kind k event events (kind event) (preempts_at events) few

-- ---- the events before an earlier step

unmoved_kind : (k j : ℕ) (event : Event) (events : List Event) → Kind event → k < j
    → ((i l : ℕ) → i < l → events_before i (preempted l events) ≡ events_before i events)
    → events_before k (preempted j (event ∷ events)) ≡ events_before k (event ∷ events)
unmoved_kind k j event events (other apart) less later =
    ap (events_before k) (preempted-other j event events apart)
    ∙ before-other k event (preempted j events) apart
    ∙ ap (λ (n : ℕ). 1 + n) (later k j less)
    ∙ sym (before-other k event events apart)
unmoved_kind k zero event events (a_step is) less later = absurd (omega (arith, less))
unmoved_kind zero (suc j) event events (a_step is) less later =
    subst (λ (e : Event). events_before 0 (preempted (suc j) (e ∷ events)) ≡ events_before 0 (e ∷ events)) (sym is)
    (ap (events_before 0) (preempted-suc j events) ∙ before-zero Step (preempted j events) refl ∙ sym (before-zero Step events refl))
unmoved_kind (suc k) (suc j) event events (a_step is) less later =
    subst (λ (e : Event). events_before (suc k) (preempted (suc j) (e ∷ events)) ≡ events_before (suc k) (e ∷ events)) (sym is)
    (ap (events_before (suc k)) (preempted-suc j events)
    ∙ before-suc k Step (preempted j events) refl
    ∙ ap (λ (n : ℕ). 1 + n) (later k j (omega (arith, less)))
    ∙ sym (before-suc k Step events refl))

unmoved : (events : List Event) (k j : ℕ) → k < j → events_before k (preempted j events) ≡ events_before k events
unmoved [] k j less = ap (events_before k) (preempted-nil j)
unmoved (event ∷ events) k j less = unmoved_kind k j event events (kind event) less (unmoved events)

unmoved_at : (k : ℕ) (places : List ℕ) (events : List Event) → All (λ (j : ℕ). k < j) places → events_before k (preempted_at places events) ≡ events_before k events
unmoved_at k [] events ahead = refl
unmoved_at k (j ∷ places) events ahead =
    unmoved (preempted_at places events) k j (All-head (λ (j : ℕ). k < j) j places ahead) ∙ unmoved_at k places events (All-tail (λ (j : ℕ). k < j) j places ahead)

-- ---- the events after a preemption

after_kind : (k n : ℕ) (event : Event) (events : List Event) → Kind event → k < count_by is_step (event ∷ events) → events_before k (event ∷ events) ≤ n
    → ((i m : ℕ) → i < count_by is_step events → events_before i events ≤ m → drop (m + 2) (preempted i events) ≡ drop m events)
    → drop (n + 2) (preempted k (event ∷ events)) ≡ drop n (event ∷ events)
after_kind k zero event events (other apart) few past later = absurd (omega (arith, past, before-other k event events apart))
after_kind k (suc n) event events (other apart) few past later =
    let more : suc n + 2 ≡ suc (n + 2) = omega arith in
    ap (drop (suc n + 2)) (preempted-other k event events apart)
    ∙ ap (λ (i : ℕ). drop i (event ∷ preempted k events)) more
    ∙ later k n (omega (arith, few, count_other event events apart)) (omega (arith, past, before-other k event events apart))
after_kind zero n event events (a_step is) few past later =
    let more : n + 2 ≡ suc (suc n) = omega arith in
    subst (λ (e : Event). drop (n + 2) (preempted 0 (e ∷ events)) ≡ drop n (e ∷ events)) (sym is)
    (ap (drop (n + 2)) (preempted-zero events) ∙ ap (λ (i : ℕ). drop i (Tick ∷ Tick ∷ Step ∷ events)) more)
after_kind (suc k) zero event events (a_step is) few past later =
    let none : events_before (suc k) (Step ∷ events) ≤ 0 = subst (λ (e : Event). events_before (suc k) (e ∷ events) ≤ 0) is past in
    absurd (omega (arith, none, before-suc k Step events refl))
after_kind (suc k) (suc n) event events (a_step is) few past later =
    let more : suc n + 2 ≡ suc (n + 2) = omega arith in
    let past_it : events_before (suc k) (Step ∷ events) ≤ suc n = subst (λ (e : Event). events_before (suc k) (e ∷ events) ≤ suc n) is past in
    let few_left : suc k < count_by is_step (Step ∷ events) = subst (λ (e : Event). suc k < count_by is_step (e ∷ events)) is few in
    subst (λ (e : Event). drop (suc n + 2) (preempted (suc k) (e ∷ events)) ≡ drop (suc n) (e ∷ events)) (sym is)
    (ap (drop (suc n + 2)) (preempted-suc k events)
    ∙ ap (λ (i : ℕ). drop i (Step ∷ preempted k events)) more
    ∙ later k n (omega (arith, few_left, count_step events)) (omega (arith, past_it, before-suc k Step events refl)))

after_it : (events : List Event) (k n : ℕ) → k < count_by is_step events → events_before k events ≤ n → drop (n + 2) (preempted k events) ≡ drop n events
after_it [] k n few past = absurd (omega (arith, few))
after_it (event ∷ events) k n few past = after_kind k n event events (kind event) few past (after_it events)

two_later : (k n : ℕ) (events : List Event) → k < count_by is_step events → events_before k events ≤ n → Preempts n events → Preempts (n + 2) (preempted k events)
two_later k n events few past p = record { later = p.later; is = after_it events k n few past ∙ p.is }

-- ---- a later step has no fewer events before it

rises_kind : (k j : ℕ) (event : Event) (events : List Event) → Kind event → k < j → ((i l : ℕ) → i < l → events_before i events ≤ events_before l events)
    → events_before k (event ∷ events) ≤ events_before j (event ∷ events)
rises_kind k j event events (other apart) less later =
    omega (arith, before-other k event events apart, before-other j event events apart, later k j less)
rises_kind k zero event events (a_step is) less later = absurd (omega (arith, less))
rises_kind zero (suc j) event events (a_step is) less later =
    subst (λ (e : Event). events_before 0 (e ∷ events) ≤ events_before (suc j) (e ∷ events)) (sym is) (omega (arith, before-zero Step events refl))
rises_kind (suc k) (suc j) event events (a_step is) less later =
    subst (λ (e : Event). events_before (suc k) (e ∷ events) ≤ events_before (suc j) (e ∷ events)) (sym is)
    (omega (arith, before-suc k Step events refl, before-suc j Step events refl, later k j (omega (arith, less))))

rises : (events : List Event) (k j : ℕ) → k < j → events_before k events ≤ events_before j events
rises [] k j less = omega (arith, before-nil k)
rises (event ∷ events) k j less = rises_kind k j event events (kind event) less (rises events)

-- ---- the moments of a placement

pub moments-nil : (earlier : ℕ) (base : List Event) → moments_from earlier [] base ≡ []
unfolding moments_from
moments-nil earlier base = refl

pub moments-cons : (earlier k : ℕ) (places : List ℕ) (base : List Event)
    → moments_from earlier (k ∷ places) base ≡ (events_before k base + 2 * earlier) ∷ moments_from (earlier + 1) places base
unfolding moments_from
moments-cons earlier k places base = refl

later_moments : (k earlier : ℕ) (places : List ℕ) (base : List Event) → All (λ (j : ℕ). k < j) places
    → All (λ (n : ℕ). events_before k base ≤ n) (moments_from earlier places base)
later_moments k earlier [] base ahead =
    subst (All (λ (n : ℕ). events_before k base ≤ n)) (sym (moments-nil earlier base)) (All-nil (λ (n : ℕ). events_before k base ≤ n))
later_moments k earlier (j ∷ places) base ahead =
    subst (All (λ (n : ℕ). events_before k base ≤ n)) (sym (moments-cons earlier j places base))
    (All-cons (λ (n : ℕ). events_before k base ≤ n) (events_before j base + 2 * earlier) (moments_from (earlier + 1) places base)
    (omega (arith, rises base k j (All-head (λ (j : ℕ). k < j) j places ahead)))
    (later_moments k (earlier + 1) places base (All-tail (λ (j : ℕ). k < j) j places ahead)))

-- with one preemption more before them they come two events later
shifted : (P R Q : ℕ → Type 0) → ((n : ℕ) → P n → R n → Q (n + 2)) → (earlier : ℕ) (places : List ℕ) (base : List Event) → All P (moments_from earlier places base)
    → All R (moments_from earlier places base) → All Q (moments_from (earlier + 1) places base)
shifted P R Q gives earlier [] base p r = subst (All Q) (sym (moments-nil (earlier + 1) base)) (All-nil Q)
shifted P R Q gives earlier (k ∷ places) base p r =
    let n = events_before k base + 2 * earlier in
    let rest = moments_from (earlier + 1) places base in
    let ps : All P (n ∷ rest) = subst (All P) (moments-cons earlier k places base) p in
    let rs : All R (n ∷ rest) = subst (All R) (moments-cons earlier k places base) r in
    let same : n + 2 ≡ events_before k base + 2 * (earlier + 1) = omega arith in
    subst (All Q) (sym (moments-cons (earlier + 1) k places base))
    (All-cons Q (events_before k base + 2 * (earlier + 1)) (moments_from (earlier + 1 + 1) places base)
    (subst Q same (gives n (All-head P n rest ps) (All-head R n rest rs)))
    (shifted P R Q gives (earlier + 1) places base (All-tail P n rest ps) (All-tail R n rest rs)))

-- The preemptions of a placement come at its moments.
pub come_there : (places : List ℕ) (base : List Event) → IsAscending places → All (λ (k : ℕ). k < count_by is_step base) places
    → All (λ (n : ℕ). Preempts n (preempted_at places base)) (moments places base)
come_there [] base ascending few = subst (All (λ (n : ℕ). Preempts n base)) (sym (moments-nil 0 base)) (All-nil (λ (n : ℕ). Preempts n base))
come_there (k ∷ places) base ascending few =
    let rest = preempted_at places base in
    let inside : k < count_by is_step base = All-head (λ (k : ℕ). k < count_by is_step base) k places few in
    let here : k < count_by is_step rest = omega (arith, inside, steps_kept_at places base) in
    let same : events_before k rest ≡ events_before k base = unmoved_at k places base ascending.0 in
    let first : events_before k base + 2 * 0 ≡ events_before k rest = omega (arith, same) in
    subst (All (λ (n : ℕ). Preempts n (preempted k rest))) (sym (moments-cons 0 k places base))
    (All-cons (λ (n : ℕ). Preempts n (preempted k rest)) (events_before k base + 2 * 0) (moments_from (0 + 1) places base)
    (subst (λ (n : ℕ). Preempts n (preempted k rest)) (sym first) (preempts_at rest k here))
    (shifted (λ (n : ℕ). Preempts n rest) (λ (n : ℕ). events_before k base ≤ n) (λ (n : ℕ). Preempts n (preempted k rest))
    (λ n p past. two_later k n rest here (omega (arith, past, same)) p) 0 places base
    (come_there places base ascending.1 (All-tail (λ (k : ℕ). k < count_by is_step base) k places few))
    (later_moments k 0 places base ascending.0)))
