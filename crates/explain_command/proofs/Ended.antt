-- How a run ended, by the event that was taken last, or since all were taken.
use Rattle.std.proofs.Common.{◌≡◌, ◌∙◌, ◌+◌, ◌||◌, ◌==◌, ℕ, suc, Bool, true, false, List, [], ◌∷◌, ◌++◌, take, drop, length, Option, Some, None, refl, sym, ap, subst, arith, drop-cons}
use Rattle.std.proofs.lemmas.Bool.Decides.{nat_tests}
use Rattle.std.proofs.lemmas.List.{take-append-drop, take_all}
use Rattle.std.proofs.lemmas.Option.{slice_get_within, get_or_from_slice_get}
use Rattle.std.proofs.Math.Seq.{take-add}
use Rattle.std.specs.Prelude.{is_some, slice_get}
use Rattle.explain_command.specs.Ends.{CountsAll, EndsAs, EndsNotBefore, HasEnded}
use Rattle.replayed_run.proofs.Joined.{run-joined}
use Rattle.replayed_run.specs.Progress.{EndsWith, TakesEvent, TakesSteps}
use Rattle.replayed_run.specs.Replayed.{IsReplayed, Replayed, is_at_end}
use Rattle.xinu_base.specs.declared.events.End.{End}
use Rattle.xinu_base.specs.declared.events.End.TheVariants.{Schedule, Done, Panic}
use Rattle.xinu_base.specs.declared.events.Event.{Event}
use Rattle.xinu_base.specs.declared.lines.TranscriptLine.{TranscriptLine}
use Rattle.xinu_model.specs.Events.{Happens, panics_in}
use Rattle.xinu_model.specs.Machine.{Xinu}
use Rattle.xinu_model.specs.Runs.{Follows, RunsTo, end_with, is_over}

-- a run whose first event ends it
run_ends : (old : Xinu) (e : Event) (more : List Event) (first : List TranscriptLine) (next : Xinu) (end : End) → Happens old e first next
    → end_with (panics_in old e) (is_over next) ≡ Some end → RunsTo old (e ∷ more) first next end
run_ends old e more first next end happens is =
    let P : Option End → Type 0 = λ o. Follows o (λ rest. RunsTo next more rest next end) first first next next end in
    (next, first, happens, subst P (sym is) (refl, refl, refl))

-- an event that comes next
cut_next : (events : List Event) (n : ℕ) (e : Event) → slice_get events n ≡ Some e → drop n events ≡ e ∷ drop (suc n) events
cut_next events n e is =
    drop-cons events n e (slice_get_within events n e is)
    ∙ ap (λ (x : Event). x ∷ drop (suc n) events) (get_or_from_slice_get events n e e is)

take_next : (events : List Event) (n : ℕ) (e : Event) → slice_get events n ≡ Some e → take (n + 1) events ≡ take n events ++ e ∷ []
take_next events n e is = take-add n 1 events ∙ ap (λ (xs : List Event). take n events ++ take 1 xs) (cut_next events n e is)

whole_next : (events : List Event) (n : ℕ) (e : Event) → slice_get events n ≡ Some e → take n events ++ (e ∷ drop (suc n) events) ≡ events
whole_next events n e is = ap (λ (xs : List Event). take n events ++ xs) (sym (cut_next events n e is)) ∙ take-append-drop n events

-- no schedule's end comes with an event
counts_so : (p q : Bool) (end : End) (r : Replayed) (start : Xinu) → end_with p q ≡ Some end → EndsNotBefore start r → CountsAll end r start
counts_so true q Schedule r start is ends = absurd (cc)
counts_so false true Schedule r start is ends = absurd (cc)
counts_so false false Schedule r start is ends = absurd (cc)
counts_so p q Done r start is ends = ends
counts_so p q Panic r start is ends = ends

-- an event ended it
ended_so : (r : Replayed) (e : Event) (first : List TranscriptLine) (next : Xinu) (over : Bool) (told : List (List ℕ)) (known : Bool) (end : End)
    → IsReplayed r → r.over ≡ false → slice_get r.events r.taken ≡ Some e → Happens r.state e first next
    → end_with (panics_in r.state e) (is_over next) ≡ Some end
    → HasEnded (record r { taken = r.taken + 1; state = next; over = over; told = told; known = known }) end
ended_so r e first next over told known end is goes comes happens ends =
    let before : RunsTo is.start (take r.taken r.events) is.lines r.state Schedule =
    (let P : End → Type 0 = λ x. RunsTo is.start (take r.taken r.events) is.lines r.state x in subst P (is.goes_on goes) is.runs) in
    let Q : List Event → Type 0 = λ es. RunsTo is.start es (is.lines ++ first) next end in
    let joined : (more : List Event) → Q (take r.taken r.events ++ (e ∷ more)) =
    λ more. run-joined (take r.taken r.events) (e ∷ more) is.start r.state next is.lines first end before
    (run_ends r.state e more first next end happens ends) in
    record {
      start = is.start;
      starts = is.starts;
      lines = is.lines ++ first;
      whole = subst Q (whole_next r.events r.taken e comes) (joined (drop (suc r.taken) r.events));
      taken = subst Q (sym (take_next r.events r.taken e comes)) (joined []);
      all = counts_so (panics_in r.state e) (is_over next) end _ is.start ends
          (record { before = r.taken; one_more = omega arith; lines = is.lines; state = r.state; runs = before });
    }

neither : (a b : Bool) → (a || b) ≡ false → a ≡ false
neither true b is = absurd (cc)
neither false b is = refl

same_event : (o : Option Event) (a b : Event) → o ≡ Some a → o ≡ Some b → a ≡ b
same_event o a b one two = cc

ended_with : (mid new : Replayed) (printed : Option (List ℕ)) (end : End) → IsReplayed mid → is_at_end mid ≡ false → TakesEvent mid new printed
    → EndsWith mid new (Some end) → HasEnded new end
ended_with mid new printed end is goes takes ends =
    let same = same_event _ ends.event takes.event ends.next takes.next in
    let last : end_with (panics_in mid.state takes.event) (is_over new.state) ≡ Some end =
    sym (ends.ends ∙ ap (λ (e : Event). end_with (panics_in mid.state e) (is_over new.state)) same) in
    subst (λ (r : Replayed). HasEnded r end) (sym takes.changes)
    (ended_so mid takes.event takes.happens.lines new.state _ new.told new.known end is (neither mid.over _ goes) takes.next takes.happens.happens last)

-- no event did
goes_with : (mid new : Replayed) (printed : Option (List ℕ)) → TakesEvent mid new printed → EndsWith mid new None → new.over ≡ false
goes_with mid new printed takes ends =
    let same = same_event _ ends.event takes.event ends.next takes.next in
    ap (λ (r : Replayed). r.over) takes.changes
    ∙ ap is_some (sym (ends.ends ∙ ap (λ (e : Event). end_with (panics_in mid.state e) (is_over new.state)) same))

-- after an event that was taken
pub ends_as : (mid new : Replayed) (printed : Option (List ℕ)) (end : Option End) → IsReplayed mid → is_at_end mid ≡ false
    → TakesEvent mid new printed → EndsWith mid new end → EndsAs new end
ends_as mid new printed None is goes takes ends = goes_with mid new printed takes ends
ends_as mid new printed (Some end) is goes takes ends = ended_with mid new printed end is goes takes ends

-- after steps that print nothing
pub goes_after : (n : ℕ) (old new : Replayed) → is_at_end old ≡ false → TakesSteps n old new → new.over ≡ false
goes_after n old new goes takes = ap (λ (r : Replayed). r.over) takes.changes ∙ neither old.over _ goes

-- all events were taken
all_taken : (over : Bool) (n m : ℕ) → over ≡ false → (over || (n == m)) ≡ true → n ≡ m
all_taken true n m goes ends = absurd (cc)
all_taken false n m goes ends = grind (arith, nat_tests)

pub ended_all : (r : Replayed) → IsReplayed r → r.over ≡ false → is_at_end r ≡ true → HasEnded r Schedule
ended_all r is goes ends =
    let all = all_taken r.over r.taken (length r.events) goes ends in
    let taken : RunsTo is.start (take r.taken r.events) is.lines r.state Schedule =
    (let P : End → Type 0 = λ x. RunsTo is.start (take r.taken r.events) is.lines r.state x in subst P (is.goes_on goes) is.runs) in
    let Q : List Event → Type 0 = λ es. RunsTo is.start es is.lines r.state Schedule in
    record {
      start = is.start;
      starts = is.starts;
      lines = is.lines;
      whole = subst Q (take_all r.taken r.events (omega (arith, all))) taken;
      taken = taken;
      all = all;
    }
