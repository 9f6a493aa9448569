-- How a run that is under way ends.
use Rattle.std.proofs.Common.{◌≡◌, List, [], ◌∷◌, ◌++◌, Some, IsSome, refl, sym, subst, append-nil}
use Rattle.host_port.specs.Outside.{Outside}
use Rattle.host_port.specs.Printing.{Printing}
use Rattle.machine.proofs.ShownLines.{shown_both}
use Rattle.machine.specs.Printed.{EventPrints}
use Rattle.xinu_base.specs.declared.events.Event.{Event}
use Rattle.xinu_base.specs.declared.events.End.{End}
use Rattle.xinu_base.specs.declared.events.End.TheVariants.{Schedule}
use Rattle.xinu_base.specs.declared.lines.TranscriptLine.{TranscriptLine}
use Rattle.xinu_model.specs.Events.{panics_in}
use Rattle.xinu_model.specs.Machine.{Xinu}
use Rattle.xinu_model.specs.Runs.{RunsTo, end_with, is_over}
use Rattle.xinu_model.specs.Text.{shown}
use Rattle.xinu_model.proofs.Runs.{some_run}
use Rattle.xinu_commands.specs.Transcripts.{RunPrints}
use Rattle.xinu_commands.proofs.Printed.{prints_failed, some_is_none}
use Rattle.machine.proofs.SoFar.{SoFar, ends_with}

-- one more event, which ends the run
pub so_far_ended : (start : Xinu) (all : List Event) (here : Xinu) (e : Event) (left events : List Event) (next : Xinu) (end : End) (a b c : Printing) (h i j : Outside)
    → events ≡ e ∷ left → SoFar start all here events a b h i → EventPrints here e next b c i j
    → end_with (panics_in here e) (is_over next) ≡ Some end → RunPrints start all next end a c h j
so_far_ended start all here e left events next end a b c h i j is so_far event ends = record {
  lines = so_far.lines ++ event.lines;
  last = next;
  ends = end;
  runs = so_far.goes_on event.lines next end (ends_with here e left events next end b c i j event is ends);
  prints = shown_both a b c h i j so_far.lines event.lines so_far.prints event.prints;
  whole = λ none. (refl, refl);
}

-- no event is left
pub so_far_end : (start : Xinu) (all : List Event) (here : Xinu) (events : List Event) (a b : Printing) (h i : Outside) → events ≡ []
    → SoFar start all here events a b h i → RunPrints start all here Schedule a b h i
so_far_end start all here events a b h i is so_far = record {
  lines = so_far.lines;
  last = here;
  ends = Schedule;
  runs = let P : List TranscriptLine → Type 0 = λ ls. RunsTo start all ls here Schedule in
      let Q : List Event → Type 0 = λ es. RunsTo here es [] here Schedule in
      subst P (append-nil so_far.lines) (so_far.goes_on [] here Schedule (subst Q (sym is) (refl, refl, refl)));
  prints = so_far.prints;
  whole = λ none. (refl, refl);
}

-- the host refused a line: of the run there was printed what the host took, whatever the rest is
pub so_far_stopped : (start : Xinu) (all : List Event) (here : Xinu) (left : List Event) (end : End) (a b : Printing) (h i : Outside)
    → IsSome b.failure → SoFar start all here left a b h i → RunPrints start all here end a b h i
so_far_stopped start all here left end a b h i failed so_far =
    let rest = some_run left here in record {
      lines = so_far.lines ++ rest.0;
      last = rest.1;
      ends = rest.2;
      runs = so_far.goes_on rest.0 rest.1 rest.2 rest.3;
      prints = shown_both a b b h i i so_far.lines rest.0 so_far.prints (prints_failed b i (shown b.plain rest.0) failed);
      whole = λ none. absurd (some_is_none b.failure failed none);
    }
