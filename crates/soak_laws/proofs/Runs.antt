-- A run in which four programs run takes all its events, and ends with them.
use Rattle.std.proofs.Common.{◌≡◌, ◌∙◌, ℕ, suc, false, List, [], ◌∷◌, length, None, ap, subst}
use Rattle.std.specs.List.{AllByRecursion}
use Rattle.soak.specs.Soaks.{Soaks, Takes, TakesAfter}
use Rattle.soak_laws.specs.Running.{AreRunning}
use Rattle.soak_laws.specs.Schedule.{IsDrawn}
use Rattle.soak_laws.proofs.Drawn.{all_drawn}
use Rattle.soak_laws.proofs.Happening.{happened_on, no_panic, not_over}
use Rattle.soak_laws.proofs.Programs.{programs_run}
use Rattle.workload.specs.Programs.{after_programs, programs}
use Rattle.transcript_laws.specs.Transcripts.{transcript}
use Rattle.workload.specs.Schedules.{events}
use Rattle.workload.specs.Summaries.{counts_of, summary}
use Rattle.xinu_base.specs.declared.events.End.{End}
use Rattle.xinu_base.specs.declared.events.End.TheVariants.{Schedule}
use Rattle.xinu_base.specs.declared.events.Event.{Event}
use Rattle.xinu_base.specs.declared.lines.TranscriptLine.{TranscriptLine}
use Rattle.xinu_model.specs.Boot.{Boots, Disks, boot_on}
use Rattle.xinu_model.specs.Events.{panics_in}
use Rattle.xinu_model.specs.Machine.{Xinu}
use Rattle.xinu_model.specs.Runs.{end_with, is_over}
use Rattle.xinu_model.specs.Text.{text}
use Rattle.workload.proofs.Reading.{length-events_in}

-- what comes of a run that takes so many events
abbrev TakesAll : ℕ → List Event → End → Type 0
TakesAll n events end = (n ≡ length events) × (end ≡ Schedule)

all_taken : {words : ℕ → List ℕ} (n : ℕ) (old : Xinu) (events : List Event) (lines : List TranscriptLine) (new : Xinu) (end : End) → AreRunning words old
    → AllByRecursion IsDrawn events → Takes n old events lines new end → TakesAll n events end
all_taken n old [] lines new end k may t = (t.0, t.3)
all_taken {words} n old (e ∷ events) lines new end k may t =
    let mid = t.0 in
    let next = happened_on old e t.1 mid k may.0 t.2 in
    let goes_on : end_with (panics_in old e) (is_over mid) ≡ None =
    ap (λ b. end_with b (is_over mid)) (no_panic old e k may.0) ∙ ap (end_with false) (not_over mid next) in
    let after = subst (λ o. TakesAfter o (λ more rest. Takes more mid events rest new end) n t.1 lines mid new end) goes_on t.3 in
    let rest = all_taken after.0 mid events after.1 new end next may.1 after.2 in
    (after.3 ∙ ap suc rest.0, rest.1)

-- A soak test takes all its events, and ends with its schedule.
pub soak_ends : (disks : Disks) (seed : ℕ) (start last : Xinu) (taken : ℕ) (lines : List TranscriptLine) (end : End)
    → boot_on disks (programs seed) ≡ Boots start → Takes taken start (events seed) lines last end → (taken ≡ 200000) × (end ≡ Schedule)
soak_ends disks seed start last taken lines end boots runs =
    let x = after_programs 1 4 seed in
    let all = all_taken taken start (events seed) lines last end (programs_run disks seed start boots) (all_drawn 200000 x) runs in
    (all.0 ∙ length-events_in 200000 x, all.1)

-- Its line says so.
pub line_says : (disks : Disks) (seed : ℕ) (start : Xinu) (summary_line : List ℕ) (last : Xinu) → boot_on disks (programs seed) ≡ Boots start
    → (k : Soaks seed start summary_line last) → summary_line ≡ summary seed 200000 (counts_of (text (transcript start k.lines last Schedule))) Schedule
line_says disks seed start summary_line last boots k =
    let all = soak_ends disks seed start last k.taken k.lines k.end boots k.runs in
    k.counted
    ∙ ap (λ n. summary seed n (counts_of (text (transcript start k.lines last k.end))) k.end) all.0
    ∙ ap (λ end. summary seed 200000 (counts_of (text (transcript start k.lines last end))) end) all.1
