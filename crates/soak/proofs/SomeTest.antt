-- There is a soak test of each number.
use Rattle.std.proofs.Common.{◌≡◌, ℕ, suc, List, [], ◌∷◌, ◌++◌, Option, Some, None, refl, sym, subst}
use Rattle.soak.specs.Soaks.{Soaks, Takes, TakesAfter}
use Rattle.transcript_laws.specs.Transcripts.{transcript}
use Rattle.workload.specs.Schedules.{events}
use Rattle.workload.specs.Summaries.{counts_of, summary}
use Rattle.xinu_base.specs.declared.events.End.{End}
use Rattle.xinu_base.specs.declared.events.End.TheVariants.{Schedule}
use Rattle.xinu_base.specs.declared.events.Event.{Event}
use Rattle.xinu_base.specs.declared.lines.TranscriptLine.{TranscriptLine}
use Rattle.xinu_model.specs.Events.{Happens, effect_of, panics_in}
use Rattle.xinu_model.specs.Machine.{Xinu}
use Rattle.xinu_model.specs.Runs.{end_with, is_over}
use Rattle.xinu_model.specs.Text.{text}
use Rattle.xinu_model.proofs.Outcomes.{least_happens}

-- that there is a run through these events
abbrev SomeRun : Xinu → List Event → Type 0
SomeRun old events = (n : ℕ) × (lines : List TranscriptLine) × (new : Xinu) × (end : End) × Takes n old events lines new end

-- a first event, and a run through the others unless it ended the run
run_from : (old mid : Xinu) (e : Event) (events : List Event) (first : List TranscriptLine) (how : Option End) → end_with (panics_in old e) (is_over mid) ≡ how
    → Happens old e first mid → SomeRun mid events → SomeRun old (e ∷ events)
run_from old mid e events first (Some how) is h rest =
    let P : Option End → Type 0 = λ o. TakesAfter o (λ n more. Takes n mid events more mid how) 1 first first mid mid how in
    (1, first, mid, how, (mid, first, h, subst P (sym is) (refl, refl, refl, refl)))
run_from old mid e events first None is h rest =
    let P : Option End → Type 0 = λ o. TakesAfter o (λ n more. Takes n mid events more rest.2 rest.3) (suc rest.0) first (first ++ rest.1) mid rest.2 rest.3 in
    (suc rest.0, first ++ rest.1, rest.2, rest.3, (mid, first, h, subst P (sym is) (rest.0, rest.1, rest.4, refl, refl)))

some_run : (events : List Event) (old : Xinu) → SomeRun old events
some_run [] old = (0, [], old, Schedule, (refl, refl, refl, refl))
some_run (e ∷ events) old =
    let mid = (effect_of old e 0).state in
    run_from old mid e events (effect_of old e 0).lines (end_with (panics_in old e) (is_over mid)) refl (least_happens old e) (some_run events mid)

-- From each start there is a run, with its summary and its last state.
pub some_test : (seed : ℕ) (start : Xinu) → (line : List ℕ) × (last : Xinu) × Soaks seed start line last
some_test seed start =
    let run = some_run (events seed) start in (
      summary seed run.0 (counts_of (text (transcript start run.1 run.2 run.3))) run.3,
      run.2,
      record { taken = run.0; lines = run.1; end = run.3; runs = run.4; counted = refl },
    )
