-- Events as repeats: equal events in front of others, and the events that repeats stand for.
use Rattle.std.proofs.Common.{◌≡◌, ◌∙◌, ℕ, zero, suc, ◌+◌, ◌<◌, Bool, true, false, cond, List, [], ◌∷◌, ◌++◌, replicate, refl, sym, ap, arith, append_assoc, append-nil}
use Rattle.std.specs.List.{flat_map}
use Rattle.std.proofs.lemmas.Grind.{flat_map-append}
use Rattle.xinu_base.specs.declared.events.Event.{Event}
use Rattle.xinu_base.specs.declared.events.Event.TheVariants.{Step, Tick, Tx, Disk0, Disk1}
use Rattle.schedule_text.specs.Written.{Repeated, is_joined, joined, repeats_of, line_text, line_of, schedule_text}

pub repeats_of-nil : repeats_of [] ≡ []
unfolding repeats_of
repeats_of-nil = refl

pub repeats_of-cons : (event : Event) (events : List Event) → repeats_of (event ∷ events) ≡ joined event (repeats_of events)
unfolding repeats_of
repeats_of-cons event events = refl

-- events that are on one line are equal
pub same : (event next : Event) → is_joined event next ≡ true → event ≡ next
same Step Step is = refl
same Tick Tick is = refl
same Tx Tx is = refl
same Disk0 Disk0 is = refl
same Disk1 Disk1 is = refl
same event next is = absurd (cc)

-- an event that comes once
abbrev once : Event → Repeated
once event = record { event = event; count = 1 }

-- an event before a line of another
apart_by : (b : Bool) (event next : Event) (first : Repeated) (rest : List Repeated) → is_joined event next ≡ false
    → joined event (cond b (record { event = next; count = suc first.count } ∷ rest) (once next ∷ first ∷ rest))
    ≡ once event ∷ cond b (record { event = next; count = suc first.count } ∷ rest) (once next ∷ first ∷ rest)
apart_by true event next first rest other = rw other refl
apart_by false event next first rest other = rw other refl

apart : (event next : Event) (repeats : List Repeated) → is_joined event next ≡ false
    → joined event (joined next repeats) ≡ once event ∷ joined next repeats
apart event next [] other = rw other refl
apart event next (first ∷ rest) other = apart_by (is_joined next first.event) event next first rest other

-- equal events alone are one line
pub repeats_of-replicate : (event : Event) (n : ℕ) → (0 < n → is_joined event event ≡ true)
    → repeats_of (replicate (suc n) event) ≡ record { event = event; count = suc n } ∷ []
repeats_of-replicate event zero counts = repeats_of-cons event [] ∙ ap (joined event) repeats_of-nil
repeats_of-replicate event (suc n) counts =
    let joins : is_joined event event ≡ true = counts (omega arith) in
    repeats_of-cons event (replicate (suc n) event)
    ∙ ap (joined event) (repeats_of-replicate event n (λ some. joins))
    ∙ rw joins refl

-- and they are one line before another event
pub repeats_of-apart : (event next : Event) (events : List Event) (n : ℕ) → (1 < n → is_joined event event ≡ true) → is_joined event next ≡ false
    → repeats_of (replicate n event ++ next ∷ events) ≡ repeats_of (replicate n event) ++ repeats_of (next ∷ events)
repeats_of-apart event next events zero counts other = ap (λ (front : List Repeated). front ++ repeats_of (next ∷ events)) (sym repeats_of-nil)
repeats_of-apart event next events (suc zero) counts other =
    repeats_of-cons event (next ∷ events)
    ∙ ap (joined event) (repeats_of-cons next events)
    ∙ apart event next (repeats_of events) other
    ∙ ap (λ (rest : List Repeated). once event ∷ rest) (sym (repeats_of-cons next events))
    ∙ ap (λ (front : List Repeated). front ++ repeats_of (next ∷ events)) (sym (repeats_of-replicate event 0 (λ none. absurd (omega arith))))
repeats_of-apart event next events (suc (suc n)) counts other =
    let joins : is_joined event event ≡ true = counts (omega arith) in
    repeats_of-cons event (replicate (suc n) event ++ next ∷ events)
    ∙ ap (joined event)
    (repeats_of-apart event next events (suc n) (λ more. joins) other
    ∙ ap (λ (front : List Repeated). front ++ repeats_of (next ∷ events)) (repeats_of-replicate event n (λ some. joins)))
    ∙ rw joins refl
    ∙ ap (λ (front : List Repeated). front ++ repeats_of (next ∷ events)) (sym (repeats_of-replicate event (suc n) (λ some. joins)))

-- one more of the same
replicate_more : (event : Event) (events : List Event) (n : ℕ) → replicate n event ++ event ∷ events ≡ replicate (suc n) event ++ events
replicate_more event events zero = refl
replicate_more event events (suc n) = ap (λ (more : List Event). event ∷ more) (replicate_more event events n)

pub joined_turn : (event next : Event) (events : List Event) (n m : ℕ) → is_joined event next ≡ true → m ≡ n + 1
    → replicate m event ++ events ≡ replicate n event ++ next ∷ events
joined_turn event next events n m joins one =
    let more : m ≡ suc n = omega arith in
    rw (more, ← same event next joins) (sym (replicate_more event events n))

-- a line and then more
pub line_turn : (event next : Event) (events : List Event) (n : ℕ) (text more : List ℕ) → (1 < n → is_joined event event ≡ true)
    → is_joined event next ≡ false → more ≡ text ++ schedule_text (replicate n event)
    → more ++ schedule_text (next ∷ events) ≡ text ++ schedule_text (replicate n event ++ next ∷ events)
line_turn event next events n text more counts other is =
    ap (λ (front : List ℕ). front ++ schedule_text (next ∷ events)) is
    ∙ append_assoc text (schedule_text (replicate n event)) (schedule_text (next ∷ events))
    ∙ ap (λ (back : List ℕ). text ++ back)
    (sym (ap (flat_map line_text) (repeats_of-apart event next events n counts other) ∙ flat_map-append line_text (repeats_of (replicate n event)) (repeats_of (next ∷ events))))

-- an event that comes so often is one line
pub one_line : (event : Event) (n : ℕ) → 0 < n → (1 < n → is_joined event event ≡ true) → schedule_text (replicate n event) ≡ line_of event n ++ 10 ∷ []
one_line event zero some counts = absurd (omega arith)
one_line event (suc n) some counts =
    ap (flat_map line_text) (repeats_of-replicate event n (λ more. counts (omega arith)))
    ∙ append-nil (line_of event (suc n) ++ 10 ∷ [])

-- no events are no line
pub no_line : schedule_text [] ≡ []
no_line = ap (flat_map line_text) repeats_of-nil
