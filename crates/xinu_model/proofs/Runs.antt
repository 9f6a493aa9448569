-- There is a run through each list of events, and what each event keeps each run keeps.
use Rattle.std.proofs.Common.{◌≡◌, List, [], ◌∷◌, ◌++◌, Option, Some, None, refl, sym, subst}
use Rattle.xinu_base.specs.declared.events.End.{End}
use Rattle.xinu_base.specs.declared.events.End.TheVariants.{Schedule}
use Rattle.xinu_base.specs.declared.events.Event.{Event}
use Rattle.xinu_base.specs.declared.lines.TranscriptLine.{TranscriptLine}
use Rattle.xinu_model.specs.Events.{effect_of, panics_in, Happens}
use Rattle.xinu_model.specs.Machine.{Xinu}
use Rattle.xinu_model.specs.Runs.{is_over, end_with, Follows, RunsTo}
use Rattle.xinu_model.proofs.Outcomes.{least_happens}

-- that there is a run through these events
abbrev pub SomeRun : Xinu → List Event → Type 0
SomeRun old events = (lines : List TranscriptLine) × (new : Xinu) × (end : End) × RunsTo old events lines new end

-- a first event, and a run through the others unless it ended the run
run_from : (old mid : Xinu) (e : Event) (events : List Event) (first : List TranscriptLine) (how : Option End)
    → end_with (panics_in old e) (is_over mid) ≡ how → Happens old e first mid → SomeRun mid events → SomeRun old (e ∷ events)
run_from old mid e events first (Some how) is h rest =
    let P : Option End → Type 0 = λ o. Follows o (λ more. RunsTo mid events more mid how) first first mid mid how in
    (first, mid, how, (mid, first, h, subst P (sym is) (refl, refl, refl)))
run_from old mid e events first None is h rest =
    let P : Option End → Type 0 = λ o. Follows o (λ more. RunsTo mid events more rest.1 rest.2) first (first ++ rest.0) mid rest.1 rest.2 in
    (first ++ rest.0, rest.1, rest.2, (mid, first, h, subst P (sym is) (rest.0, rest.3, refl)))

-- There is a run through each list of events.
pub some_run : (events : List Event) (old : Xinu) → SomeRun old events
some_run [] old = ([], old, Schedule, (refl, refl, refl))
some_run (e ∷ events) old =
    let mid = (effect_of old e 0).state in
    run_from old mid e events (effect_of old e 0).lines (end_with (panics_in old e) (is_over mid)) refl (least_happens old e) (some_run events mid)
