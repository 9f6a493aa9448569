-- A run whose events are counted one by one: whatever the rest of it takes continues it.
use Rattle.std.proofs.Common.{◌≡◌, ℕ, ◌+◌, suc, List, [], ◌∷◌, ◌++◌, Option, Some, None, refl, sym, subst, arith, append_assoc, append-nil}
use Rattle.soak.proofs.Added.{counted_nothing, counted_on}
use Rattle.soak.specs.Counting.{CountsEvent, CountsEvents}
use Rattle.soak.specs.Soaks.{Takes, TakesAfter}
use Rattle.workload.specs.Summaries.{Counts, added, counts_of}
use Rattle.xinu_base.specs.declared.events.Event.{Event}
use Rattle.xinu_base.specs.declared.events.End.{End}
use Rattle.xinu_base.specs.declared.events.End.TheVariants.{Schedule}
use Rattle.xinu_base.specs.declared.lines.TranscriptLine.{TranscriptLine}
use Rattle.xinu_model.specs.Events.{panics_in}
use Rattle.xinu_model.specs.Machine.{Xinu}
use Rattle.xinu_model.specs.Runs.{end_with, is_over}
use Rattle.xinu_model.specs.Text.{text}

-- So many of the events were taken, and their lines were counted.
pub record Along (taken : ℕ) (start : Xinu) (all : List Event) (here : Xinu) (left : List Event) (before now : Counts) : Type 0 where
  pub lines : List TranscriptLine
  pub goes_on : (n : ℕ) (more : List TranscriptLine) (new : Xinu) (end : End) → Takes n here left more new end → Takes (taken + n) start all (lines ++ more) new end
  pub counted : now ≡ added before (counts_of (text lines))

-- at the start no event was taken
pub along_start : (s : Xinu) (all : List Event) (c : Counts) → Along 0 s all s all c c
along_start s all c = record {
  lines = [];
  goes_on = λ n more new end run.
      let P : ℕ → Type 0 = λ k. Takes k s all more new end in
      let same : n ≡ 0 + n = omega arith in
      subst P same run;
  counted = counted_nothing c;
}

-- an event with which the run doesn't end, and what the rest takes
goes_with : (here : Xinu) (e : Event) (left events : List Event) (next : Xinu) (b c : Counts) (event : CountsEvent here e next b c) (n : ℕ) (more : List TranscriptLine) (new : Xinu) (end : End)
    → events ≡ e ∷ left → end_with (panics_in here e) (is_over next) ≡ None → Takes n next left more new end → Takes (suc n) here events (event.lines ++ more) new end
goes_with here e left events next b c event n more new end is goes run =
    let P : Option End → Type 0 = λ o. TakesAfter o (λ k rest. Takes k next left rest new end) (suc n) event.lines (event.lines ++ more) next new end in
    let after : P (end_with (panics_in here e) (is_over next)) = subst P (sym goes) (n, more, run, refl, refl) in
    let Q : List Event → Type 0 = λ es. Takes (suc n) here es (event.lines ++ more) new end in
    subst Q (sym is) (next, event.lines, event.happens, after)

-- one more event, after which the run goes on
pub along_event : (taken : ℕ) (start : Xinu) (all : List Event) (here : Xinu) (e : Event) (left events : List Event) (next : Xinu) (a b c : Counts)
    → events ≡ e ∷ left → Along taken start all here events a b → CountsEvent here e next b c
    → end_with (panics_in here e) (is_over next) ≡ None → Along (taken + 1) start all next left a c
along_event taken start all here e left events next a b c is so_far event goes = record {
  lines = so_far.lines ++ event.lines;
  goes_on = λ n more new end run.
      let P : List TranscriptLine → Type 0 = λ ls. Takes (taken + suc n) start all ls new end in
      let Q : ℕ → Type 0 = λ k. Takes k start all ((so_far.lines ++ event.lines) ++ more) new end in
      let same : taken + suc n ≡ taken + 1 + n = omega arith in
      subst Q same (subst P (sym (append_assoc so_far.lines event.lines more))
      (so_far.goes_on (suc n) (event.lines ++ more) new end (goes_with here e left events next b c event n more new end is goes run)));
  counted = counted_on a b c so_far.lines event.lines so_far.counted event.counted;
}

-- an event with which the run ends
ends_with : (here : Xinu) (e : Event) (left events : List Event) (next : Xinu) (end : End) (b c : Counts) (event : CountsEvent here e next b c)
    → events ≡ e ∷ left → end_with (panics_in here e) (is_over next) ≡ Some end → Takes 1 here events event.lines next end
ends_with here e left events next end b c event is ends =
    let P : Option End → Type 0 = λ o. TakesAfter o (λ k rest. Takes k next left rest next end) 1 event.lines event.lines next next end in
    let after : P (end_with (panics_in here e) (is_over next)) = subst P (sym ends) (refl, refl, refl, refl) in
    let Q : List Event → Type 0 = λ es. Takes 1 here es event.lines next end in
    subst Q (sym is) (next, event.lines, event.happens, after)

-- one more event, which ends the run
pub along_ended : (taken : ℕ) (start : Xinu) (all : List Event) (here : Xinu) (e : Event) (left events : List Event) (next : Xinu) (end : End) (a b c : Counts)
    → events ≡ e ∷ left → Along taken start all here events a b → CountsEvent here e next b c
    → end_with (panics_in here e) (is_over next) ≡ Some end → CountsEvents (taken + 1) start all next end a c
along_ended taken start all here e left events next end a b c is so_far event ends = record {
  lines = so_far.lines ++ event.lines;
  runs = so_far.goes_on 1 event.lines next end (ends_with here e left events next end b c event is ends);
  counted = counted_on a b c so_far.lines event.lines so_far.counted event.counted;
}

-- no event is left
pub along_end : (taken : ℕ) (start : Xinu) (all : List Event) (here : Xinu) (events : List Event) (a b : Counts) → events ≡ []
    → Along taken start all here events a b → CountsEvents taken start all here Schedule a b
along_end taken start all here events a b is so_far =
    let Q : List Event → Type 0 = λ es. Takes 0 here es [] here Schedule in
    let P : List TranscriptLine → Type 0 = λ ls. Takes (taken + 0) start all ls here Schedule in
    let R : ℕ → Type 0 = λ k. Takes k start all so_far.lines here Schedule in
    let same : taken + 0 ≡ taken = omega arith in
    record {
      lines = so_far.lines;
      runs = subst R same (subst P (append-nil so_far.lines) (so_far.goes_on 0 [] here Schedule (subst Q (sym is) (refl, refl, refl, refl))));
      counted = so_far.counted;
    }
