-- A run that is under way, and whether something was chosen in it; and how it ends.
use Rattle.std.proofs.Common.{◌≡◌, Bool, true, ◌&&◌, not, List, [], ◌∷◌, ◌++◌, Some, None, refl, sym, subst, append-nil, append_assoc}
use Rattle.host_port.specs.Outside.{Outside}
use Rattle.host_port.specs.Printing.{Printing}
use Rattle.machine.proofs.ShownLines.{shown_both, shown_nothing}
use Rattle.machine.specs.Printed.{EventPrints}
use Rattle.race_runs.proofs.Choosing.{QuietSoFar, quiet_end, quiet_ended, quiet_more, quiet_start}
use Rattle.race_runs.specs.Forced.{has_calls}
use Rattle.race_runs.specs.Runs.{RunPrinted}
use Rattle.xinu_base.specs.declared.events.Event.{Event}
use Rattle.xinu_base.specs.declared.events.End.{End}
use Rattle.xinu_base.specs.declared.events.End.TheVariants.{Schedule}
use Rattle.xinu_base.specs.declared.lines.TranscriptLine.{TranscriptLine}
use Rattle.xinu_model.specs.Events.{panics_in}
use Rattle.xinu_model.specs.Machine.{Xinu}
use Rattle.xinu_model.specs.Runs.{RunsTo, end_with, is_over}
use Rattle.machine.proofs.SoFar.{SoFar, ends_with, goes_with}

-- Some of the events were taken and their lines printed; and whether the run was quiet.
pub record Taken (start : Xinu) (all : List Event) (here : Xinu) (left : List Event) (is_quiet : Bool) (before after : Printing) (was is : Outside) : Type 0 where
  pub so_far : SoFar start all here left before after was is
  pub quiet : QuietSoFar is_quiet start all here left so_far.lines

-- at the start no event was taken
pub taken_start : (start : Xinu) (all : List Event) (is_quiet : Bool) (p : Printing) (h : Outside) → is_quiet ≡ (true && not (has_calls start))
    → Taken start all start all is_quiet p p h h
taken_start start all is_quiet p h same = record {
  so_far = record { lines = []; goes_on = λ more new end run. run; prints = shown_nothing p h };
  quiet = quiet_start start all is_quiet same;
}

-- one more event, after which the run goes on
pub taken_event : (start : Xinu) (all : List Event) (here : Xinu) (e : Event) (left events : List Event) (next : Xinu) (was_quiet is_quiet : Bool) (a b c : Printing) (h i j : Outside)
    → events ≡ e ∷ left → Taken start all here events was_quiet a b h i → EventPrints here e next b c i j
    → end_with (panics_in here e) (is_over next) ≡ None → is_quiet ≡ (was_quiet && not (has_calls next)) → Taken start all next left is_quiet a c h j
taken_event start all here e left events next was_quiet is_quiet a b c h i j is taken event goes same =
    let so_far = taken.so_far in
    record {
      so_far = record {
        lines = so_far.lines ++ event.lines;
        goes_on = λ more new end run.
            let P : List TranscriptLine → Type 0 = λ ls. RunsTo start all ls new end in
            subst P (sym (append_assoc so_far.lines event.lines more))
            (so_far.goes_on (event.lines ++ more) new end (goes_with here e left events next b c i j event more new end is goes run));
        prints = shown_both a b c h i j so_far.lines event.lines so_far.prints event.prints;
      };
      quiet = quiet_more was_quiet is_quiet start all here e left events next so_far.lines event.lines is taken.quiet event.happens same;
    }

-- one more event, which ends the run
pub taken_ended : (start : Xinu) (all : List Event) (here : Xinu) (e : Event) (left events : List Event) (next : Xinu) (end : End) (was_quiet is_quiet : Bool) (a b c : Printing) (h i j : Outside)
    → events ≡ e ∷ left → Taken start all here events was_quiet a b h i → EventPrints here e next b c i j
    → end_with (panics_in here e) (is_over next) ≡ Some end → is_quiet ≡ (was_quiet && not (has_calls next)) → RunPrinted start all next end is_quiet a c h j
taken_ended start all here e left events next end was_quiet is_quiet a b c h i j is taken event ends same =
    let so_far = taken.so_far in
    record {
      lines = so_far.lines ++ event.lines;
      runs = so_far.goes_on event.lines next end (ends_with here e left events next end b c i j event is ends);
      prints = shown_both a b c h i j so_far.lines event.lines so_far.prints event.prints;
      nothing = quiet_ended was_quiet is_quiet start all here e left events next so_far.lines event.lines end is taken.quiet event.happens same ends;
    }

-- no event is left
pub taken_end : (start : Xinu) (all : List Event) (here : Xinu) (events : List Event) (is_quiet : Bool) (a b : Printing) (h i : Outside) → events ≡ []
    → Taken start all here events is_quiet a b h i → RunPrinted start all here Schedule is_quiet a b h i
taken_end start all here events is_quiet a b h i is taken =
    let so_far = taken.so_far in
    record {
      lines = so_far.lines;
      runs = let P : List TranscriptLine → Type 0 = λ ls. RunsTo start all ls here Schedule in
          let Q : List Event → Type 0 = λ es. RunsTo here es [] here Schedule in
          subst P (append-nil so_far.lines) (so_far.goes_on [] here Schedule (subst Q (sym is) (refl, refl, refl)));
      prints = so_far.prints;
      nothing = quiet_end is_quiet start all here events so_far.lines is taken.quiet;
    }
