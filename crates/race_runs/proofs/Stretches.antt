-- Nothing is chosen in a run of several stretches if nothing is chosen in each.
use Rattle.std.proofs.Common.{◌≡◌, ◌∙◌, List, [], ◌∷◌, ◌++◌, Option, Some, None, ap, subst}
use Rattle.xinu_base.specs.declared.events.End.{End}
use Rattle.xinu_base.specs.declared.events.End.TheVariants.{Schedule}
use Rattle.xinu_base.specs.declared.events.Event.{Event}
use Rattle.xinu_base.specs.declared.lines.TranscriptLine.{TranscriptLine}
use Rattle.xinu_laws.specs.Outcomes.{ChoosesNothing}
use Rattle.xinu_model.specs.Events.{panics_in}
use Rattle.xinu_model.specs.Machine.{Xinu}
use Rattle.xinu_model.specs.Runs.{Follows, RunsTo, end_with, is_over}
use Rattle.race_runs.proofs.Choosing.{left_by}

-- what follows an event after which the run goes on
record GoesOn (Rest : List TranscriptLine → Type 0) : Type 0 where
  rest : List TranscriptLine
  runs : Rest rest

goes_on : (how : Option End) (Rest : List TranscriptLine → Type 0) (first lines : List TranscriptLine) (mid new : Xinu) (end : End) → how ≡ None
    → Follows how Rest first lines mid new end → GoesOn Rest
goes_on None Rest first lines mid new end is f = record { rest = f.0; runs = f.1 }
goes_on (Some how) Rest first lines mid new end is f = absurd (cc)

-- nothing is chosen in a run that took all its events, nor in one from where it led
pub none-joined : (xs ys : List Event) (old here : Xinu) (lines : List TranscriptLine) → RunsTo old xs lines here Schedule → ChoosesNothing old xs
    → ChoosesNothing here ys → ChoosesNothing old (xs ++ ys)
none-joined [] ys old here lines run none later = subst (λ s. ChoosesNothing s ys) run.1 later
none-joined (e ∷ xs) ys old here lines run none later = (
  none.0,
  λ others mid h goes.
      let same = left_by old e run.1 others run.0 mid none.0 run.2 h in
      let ends : end_with (panics_in old e) (is_over run.0) ≡ None = ap (λ s. end_with (panics_in old e) (is_over s)) same ∙ goes in
      let rest = goes_on (end_with (panics_in old e) (is_over run.0)) (λ rest. RunsTo run.0 xs rest here Schedule) run.1 lines run.0 here Schedule ends run.3 in
      subst (λ s. ChoosesNothing s (xs ++ ys)) same (none-joined xs ys run.0 here rest.rest rest.runs (none.1 run.1 run.0 run.2 ends) later),
)

-- nor in a run that ended before all its events were taken, with events appended
pub none-ended : (xs ys : List Event) (old new : Xinu) (lines : List TranscriptLine) (end : End) → (end ≡ Schedule → ⊥) → RunsTo old xs lines new end
    → ChoosesNothing old xs → ChoosesNothing old (xs ++ ys)
none-ended [] ys old new lines end ends run none = absurd (ends run.2)
none-ended (e ∷ xs) ys old new lines end ends run none = (
  none.0,
  λ others mid h goes.
      let same = left_by old e run.1 others run.0 mid none.0 run.2 h in
      let on : end_with (panics_in old e) (is_over run.0) ≡ None = ap (λ s. end_with (panics_in old e) (is_over s)) same ∙ goes in
      let rest = goes_on (end_with (panics_in old e) (is_over run.0)) (λ rest. RunsTo run.0 xs rest new end) run.1 lines run.0 new end on run.3 in
      subst (λ s. ChoosesNothing s (xs ++ ys)) same (none-ended xs ys run.0 new rest.rest end ends rest.runs (none.1 run.1 run.0 run.2 on)),
)
