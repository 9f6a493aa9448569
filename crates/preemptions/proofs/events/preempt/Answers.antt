-- One event after another.
use Rattle.std.proofs.Common.{◌≡◌, ◌∙◌, ◌+◌, ◌++◌, ◌∷◌, ◌<◌, true, false, [], ℕ, List, length, drop, get_or, sym, ap, arith, refl, add-one, drop-cons, append_assoc, append-nil}
use Rattle.std.proofs.lemmas.List.{drop_all}
use Rattle.xinu_base.specs.declared.events.Event.{Event}
use Rattle.xinu_base.specs.declared.events.Event.TheVariants.{Step}
use Rattle.preemptions.specs.Passes.{Steps, preempted_after}
use Rattle.preemptions.specs.Preempted.{preempted_at, is_step}
use Rattle.preemptions.proofs.StepLemmas.{all_ahead, is_step-step, preempted_after-start, preempted_after-end, preempted_after-other}
use Rattle.preemptions.proofs.events.preempt.Goals.{then-is_step+in_ok-rest, else-is_step+in_ok-push}
use Rattle.preemptions.proofs.events.preempt.Goals as goal

pub loop-event-init : goal.loop-event-init
loop-event-init c = record {
  made = ap (λ (es : List Event). es ++ preempted_after 0 c.args.places.now c.args.base.now) c.new-events.ensures.items
      ∙ preempted_after-start c.args.places.now c.args.base.now;
  ahead = all_ahead c.args.places.now c.requires.ascending;
  few = omega arith;
}

-- a step
stepped : (steps : ℕ) (places left : List ℕ) (before after : List Event) (event : Event) (events all : List Event) → Steps steps places left before after
    → is_step event ≡ true → before ++ preempted_after steps places (event ∷ events) ≡ all → after ++ preempted_after (steps + 1) left events ≡ all
stepped steps places left before after event events all taken step so_far =
    taken.appended events
    ∙ ap (λ (e : Event). before ++ preempted_after steps places (e ∷ events)) (sym (is_step-step event step))
    ∙ so_far

-- another event
passed : (steps : ℕ) (places : List ℕ) (before after : List Event) (event : Event) (events all : List Event) → after ≡ before ++ event ∷ []
    → is_step event ≡ false → before ++ preempted_after steps places (event ∷ events) ≡ all → after ++ preempted_after steps places events ≡ all
passed steps places before after event events all is other so_far =
    ap (λ (es : List Event). es ++ preempted_after steps places events) is
    ∙ append_assoc before (event ∷ []) (preempted_after steps places events)
    ∙ ap (λ (es : List Event). before ++ es) (sym (preempted_after-other steps places event events other))
    ∙ so_far

pub loop-event-preserved : goal.loop-event-preserved
loop-event-preserved c =
    let l = c.loop-event in
    let base = c.args.base.now in
    let event = get_or base l.event-index Step in
    let rest = drop (l.event-index + 1) base in
    let all = preempted_at c.args.places.now base in
    let within : l.event-index < length base = c.loop-event-test.true in
    let ahead : drop l.event-index base ≡ event ∷ rest = rw (add-one, drop-cons base l.event-index Step) refl in
    let so_far : l.events.items ++ preempted_after l.steps l.rest.now (event ∷ rest) ≡ all = rw ahead at l.invariant.made in
    elim c.if-is_step.branch [
      | then-is_step+in_ok-rest w ↦
          let step : is_step event ≡ true = sym c.is_step.ensures.step ∙ w.if-is_step.true in
          let taken = w.in_ok-rest.ensures.appended in
          record {
            made = rw (w.events-is, w.steps-is, w.rest-is) (stepped l.steps l.rest.now _ l.events.items _ event rest all taken step so_far);
            ahead = rw (w.steps-is, w.rest-is) taken.ahead;
            few = omega (arith, w.steps-is, l.invariant.few);
          }
      | else-is_step+in_ok-push w ↦
          let other : is_step event ≡ false = sym c.is_step.ensures.step ∙ w.if-is_step.false in
          record {
            made = rw (w.events-is, w.steps-is, w.rest-is) (passed l.steps l.rest.now l.events.items _ event rest all w.in_ok-push.ensures.items other so_far);
            ahead = rw (w.steps-is, w.rest-is) l.invariant.ahead;
            few = omega (arith, w.steps-is, l.invariant.few);
          }
    ]

pub returns : goal.returns
returns c =
    let l = c.loop-event in
    let base = c.args.base.now in
    let none : drop l.event-index base ≡ [] = drop_all l.event-index base (omega arith) in
    record {
      events = sym (append-nil l.events.items)
          ∙ ap (λ (es : List Event). l.events.items ++ es) (sym (ap (preempted_after l.steps l.rest.now) none ∙ preempted_after-end l.steps l.rest.now))
          ∙ l.invariant.made;
    }
