-- A run that is under way: whatever run goes on from here continues it.
use Rattle.std.proofs.Common.{◌≡◌, List, [], ◌∷◌, ◌++◌, Option, Some, None, refl, sym, subst, append_assoc}
use Rattle.host_port.specs.Outside.{Outside}
use Rattle.host_port.specs.Printing.{Printing, Prints}
use Rattle.machine.proofs.ShownLines.{shown_both, shown_nothing}
use Rattle.machine.specs.Printed.{EventPrints}
use Rattle.xinu_base.specs.declared.events.Event.{Event}
use Rattle.xinu_base.specs.declared.events.End.{End}
use Rattle.xinu_base.specs.declared.lines.TranscriptLine.{TranscriptLine}
use Rattle.xinu_model.specs.Events.{panics_in}
use Rattle.xinu_model.specs.Machine.{Xinu}
use Rattle.xinu_model.specs.Runs.{Follows, RunsTo, end_with, is_over}
use Rattle.xinu_model.specs.Text.{shown}

-- Some of the events were taken and their lines printed. Whatever the rest of the run is, it continues this one.
pub record SoFar (start : Xinu) (all : List Event) (here : Xinu) (left : List Event) (before after : Printing) (was is : Outside) : Type 0 where
  pub lines : List TranscriptLine
  pub goes_on : (more : List TranscriptLine) (new : Xinu) (end : End) → RunsTo here left more new end → RunsTo start all (lines ++ more) new end
  pub prints : Prints before after was is (shown before.plain lines)

-- at the start no event was taken
pub so_far_start : (s : Xinu) (all : List Event) (p : Printing) (h : Outside) → SoFar s all s all p p h h
so_far_start s all p h =
    record { lines = []; goes_on = λ more new end run. run; prints = shown_nothing p h }

-- an event with which the run doesn't end, and the rest of the run
pub goes_with : (here : Xinu) (e : Event) (left events : List Event) (next : Xinu) (a b : Printing) (h i : Outside) (happened : EventPrints here e next a b h i) (more : List TranscriptLine) (new : Xinu) (end : End)
    → events ≡ e ∷ left → end_with (panics_in here e) (is_over next) ≡ None → RunsTo next left more new end
    → RunsTo here events (happened.lines ++ more) new end
goes_with here e left events next a b h i happened more new end is goes run =
    let follows : Follows (end_with (panics_in here e) (is_over next)) (λ rest. RunsTo next left rest new end) happened.lines (happened.lines ++ more) next new end =
    (let P : Option End → Type 0 = λ o. Follows o (λ rest. RunsTo next left rest new end) happened.lines (happened.lines ++ more) next new end in
    subst P (sym goes) (more, run, refl)) in
    let Q : List Event → Type 0 = λ es. RunsTo here es (happened.lines ++ more) new end in
    subst Q (sym is) (next, happened.lines, happened.happens, follows)

-- one more event, after which the run goes on
pub so_far_event : (start : Xinu) (all : List Event) (here : Xinu) (e : Event) (left events : List Event) (next : Xinu) (a b c : Printing) (h i j : Outside)
    → events ≡ e ∷ left → SoFar start all here events a b h i → EventPrints here e next b c i j
    → end_with (panics_in here e) (is_over next) ≡ None → SoFar start all next left a c h j
so_far_event start all here e left events next a b c h i j is so_far event goes = record {
  lines = so_far.lines ++ event.lines;
  goes_on = λ more new end run.
      let P : List TranscriptLine → Type 0 = λ ls. RunsTo start all ls new end in
      subst P (sym (append_assoc so_far.lines event.lines more))
      (so_far.goes_on (event.lines ++ more) new end (goes_with here e left events next b c i j event more new end is goes run));
  prints = shown_both a b c h i j so_far.lines event.lines so_far.prints event.prints;
}

-- an event with which the run ends
pub ends_with : (here : Xinu) (e : Event) (left events : List Event) (next : Xinu) (end : End) (a b : Printing) (h i : Outside) (happened : EventPrints here e next a b h i)
    → events ≡ e ∷ left → end_with (panics_in here e) (is_over next) ≡ Some end → RunsTo here events happened.lines next end
ends_with here e left events next end a b h i happened is ends =
    let follows : Follows (end_with (panics_in here e) (is_over next)) (λ rest. RunsTo next left rest next end) happened.lines happened.lines next next end =
    (let P : Option End → Type 0 = λ o. Follows o (λ rest. RunsTo next left rest next end) happened.lines happened.lines next next end in
    subst P (sym ends) (refl, refl, refl)) in
    let Q : List Event → Type 0 = λ es. RunsTo here es happened.lines next end in
    subst Q (sym is) (next, happened.lines, happened.happens, follows)
