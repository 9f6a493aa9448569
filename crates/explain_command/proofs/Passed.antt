-- What is noted of strays, of refused calls and of lives, after one event more.
use Rattle.std.proofs.Common.{◌≡◌, ◌∙◌, ◌<◌, ℕ, suc, List, [], ◌∷◌, ◌++◌, refl, sym, subst, ap, arith, inl, inr}
use Rattle.std.specs.Prelude.{length, slice_get, Option, Some}
use Rattle.explain_command.specs.Passing.{HasLived, HasNoted, HasRefused, Passes, TakesNext}
use Rattle.memory_strays.specs.Strays.{Noted, note_event, noted, nothing_noted}
use Rattle.process_lives.specs.Lives.{first_life, life_in, life_of, next_life}
use Rattle.process_lives.specs.declared.lives.Life.{Life}
use Rattle.refused_calls.specs.Refusals.{refusals_of, refused_in}
use Rattle.refused_calls.specs.declared.refused.Refused.{Refused}
use Rattle.replayed_run.specs.Progress.{TakesEvent, TakesSteps}
use Rattle.replayed_run.specs.Replayed.{Replayed}
use Rattle.xinu_base.specs.declared.events.Event.{Event}
use Rattle.xinu_model.specs.Machine.{Xinu}

-- the events stay, and one more is taken
pub next_taken : (old new : Replayed) → TakesNext old new → new.taken ≡ suc old.taken
next_taken old new (inl (printed, t)) = ap (λ (r : Replayed). r.taken) t.changes ∙ (omega arith)
next_taken old new (inr t) = ap (λ (r : Replayed). r.taken) t.changes ∙ (omega arith)

next_events : (old new : Replayed) → TakesNext old new → new.events ≡ old.events
next_events old new (inl (printed, t)) = ap (λ (r : Replayed). r.events) t.changes
next_events old new (inr t) = ap (λ (r : Replayed). r.events) t.changes

next_files : (old new : Replayed) → TakesNext old new → new.files ≡ old.files
next_files old new (inl (printed, t)) = ap (λ (r : Replayed). r.files) t.changes
next_files old new (inr t) = ap (λ (r : Replayed). r.files) t.changes

-- what is noted of one state more
noted_more : (files : List (List ℕ)) (events : List Event) (s : Xinu) (earlier : List Xinu)
    → noted files events (s ∷ earlier) ≡ note_event (slice_get events (length earlier)) (length earlier) s (noted files events earlier)
unfolding noted
noted_more files events s earlier = refl

passed_more : (old mid new : Replayed) (states : List Xinu) → Passes old states mid → TakesNext mid new → Passes old (mid.state ∷ states) new
unfolding Passes
passed_more old mid new states before takes = record { mid = mid; before = before; state = refl; takes = takes }

pub noted_next : (old mid new : Replayed) (x : Noted) → HasNoted old mid x → TakesNext mid new
    → HasNoted old new (note_event (slice_get mid.events mid.taken) mid.taken mid.state x)
noted_next old mid new x so takes =
    let events = next_events mid new takes in
    let files = next_files mid new takes in
    record {
      states = mid.state ∷ so.states;
      passes = passed_more old mid new so.states so.passes takes;
      many = ap suc so.many ∙ sym (next_taken mid new takes);
      notes = ap (λ n. note_event (slice_get mid.events n) n mid.state x) (sym so.many)
          ∙ ap (λ y. note_event (slice_get mid.events (length so.states)) (length so.states) mid.state y) so.notes
          ∙ sym (noted_more mid.files mid.events mid.state so.states) ∙ ap (λ l. noted mid.files l (mid.state ∷ so.states)) (sym events)
          ∙ ap (λ f. noted f new.events (mid.state ∷ so.states)) (sym files);
    }

-- the same, of an event that is said to come next
pub noted_after : (old mid new : Replayed) (event : Event) (x y : Noted) → HasNoted old mid x → slice_get mid.events mid.taken ≡ Some event
    → y ≡ note_event (Some event) mid.taken mid.state x → TakesNext mid new → HasNoted old new y
noted_after old mid new event x y so next is takes =
    subst (λ z. HasNoted old new z) (ap (λ e. note_event e mid.taken mid.state x) next ∙ sym is) (noted_next old mid new x so takes)

-- the refused calls of one state more
refusals_more : (events : List Event) (s : Xinu) (earlier : List Xinu)
    → refusals_of events (s ∷ earlier) ≡ refusals_of events earlier ++ refused_in (slice_get events (length earlier)) (length earlier) s
unfolding refusals_of
refusals_more events s earlier = refl

refused_next : (old mid new : Replayed) (x : List Refused) → HasRefused old mid x → TakesNext mid new
    → HasRefused old new (x ++ refused_in (slice_get mid.events mid.taken) mid.taken mid.state)
refused_next old mid new x so takes =
    record {
      states = mid.state ∷ so.states;
      passes = passed_more old mid new so.states so.passes takes;
      many = ap suc so.many ∙ sym (next_taken mid new takes);
      are = ap (λ n. x ++ refused_in (slice_get mid.events n) n mid.state) (sym so.many)
          ∙ ap (λ (y : List Refused). y ++ refused_in (slice_get mid.events (length so.states)) (length so.states) mid.state) so.are
          ∙ sym (refusals_more mid.events mid.state so.states) ∙ ap (λ l. refusals_of l (mid.state ∷ so.states)) (sym (next_events mid new takes));
    }

-- the same, of an event that is said to come next
pub refused_after : (old mid new : Replayed) (event : Event) (x y : List Refused) → HasRefused old mid x → slice_get mid.events mid.taken ≡ Some event
    → y ≡ x ++ refused_in (Some event) mid.taken mid.state → TakesNext mid new → HasRefused old new y
refused_after old mid new event x y so next is takes =
    subst (λ z. HasRefused old new z) (ap (λ e. x ++ refused_in e mid.taken mid.state) next ∙ sym is) (refused_next old mid new x so takes)

-- no call is refused at the beginning
pub refused_none : (r : Replayed) (x : List Refused) → r.taken ≡ 0 → x ≡ [] → HasRefused r r x
unfolding Passes refusals_of
refused_none r x none is = record { states = []; passes = refl; many = sym none; are = is }

-- an event that was taken once no step was
pub taken_after : (old mid new : Replayed) (printed : Option (List ℕ)) → TakesSteps 0 old mid → TakesEvent mid new printed → TakesEvent old new printed
taken_after old mid new printed none event =
    let same : mid ≡ record old { told = mid.told } =
    none.changes ∙ ap (λ n. record old { taken = n; state = old.state; told = mid.told }) (omega arith) in
    let so = subst (λ (r : Replayed). TakesEvent r new printed) same event in
    record { event = so.event; next = so.next; happens = so.happens; changes = so.changes }

-- nothing is noted at the beginning
pub noted_none : (r : Replayed) → r.taken ≡ 0 → HasNoted r r (nothing_noted r.files)
unfolding Passes noted
noted_none r none = record { states = []; passes = refl; many = sym none; notes = refl }

-- the life of a process by one state more
life_more : (p : ℕ) (ahead : Xinu) (earlier : List Xinu) (s : Xinu)
    → life_of p (ahead ∷ earlier) s ≡ next_life (suc (length earlier)) s.tables p (life_of p earlier ahead)
unfolding life_of
life_more p ahead earlier s = refl

-- the lives after the event that is taken next
pub lived_next : (old mid new : Replayed) (x y : List Life) → HasLived old mid x → TakesNext mid new
    → ((p : ℕ) → p < 64 → life_in y p ≡ next_life new.taken new.state.tables p (life_in x p)) → HasLived old new y
lived_next old mid new x y so takes noted =
    let many : suc (length so.states) ≡ new.taken = ap suc so.many ∙ sym (next_taken mid new takes) in
    record {
      states = mid.state ∷ so.states;
      passes = passed_more old mid new so.states so.passes takes;
      many = many;
      are = λ p low. noted p low
          ∙ ap (λ life. next_life new.taken new.state.tables p life) (so.are p low)
          ∙ ap (λ n. next_life n new.state.tables p (life_of p so.states mid.state)) (sym many)
          ∙ sym (life_more p mid.state so.states new.state);
    }

-- the lives at the beginning
pub lived_none : (r : Replayed) (x : List Life) → r.taken ≡ 0 → ((p : ℕ) → p < 64 → life_in x p ≡ first_life r.state.tables p) → HasLived r r x
unfolding Passes life_of
lived_none r x none first = record { states = []; passes = refl; many = sym none; are = first }
