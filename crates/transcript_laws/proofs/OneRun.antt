-- A text is that of one run.
use Rattle.std.proofs.Common.{◌≡◌, ◌<◌, ℕ, false, List, [], ◌∷◌, ◌++◌, length, Option, Some, None, refl, sym, ap, ◌∙◌, subst, append_assoc}
use Rattle.xinu_base.specs.Constants.{NPROC}
use Rattle.xinu_base.specs.declared.events.End.{End}
use Rattle.xinu_base.specs.declared.events.Event.{Event}
use Rattle.xinu_base.specs.declared.lines.TranscriptLine.{TranscriptLine}
use Rattle.xinu_model.specs.Agree.{begins_next}
use Rattle.xinu_model.specs.Boot.{Boots, Disks, Loaded}
use Rattle.xinu_model.specs.Events.{Happens, effect_of, panics_in}
use Rattle.xinu_model.specs.Machine.{Xinu, EventResult}
use Rattle.xinu_model.specs.Runs.{RunsTo, Follows, end_with, is_over}
use Rattle.xinu_model.specs.Sound.State.{IsSound}
use Rattle.xinu_model.specs.Text.{text}
use Rattle.xinu_laws.proofs.RunOutcomes.{parted, run_begins}
use Rattle.xinu_laws.proofs.Preserve.Disks.{sound_boot_on}
use Rattle.xinu_laws.proofs.Preserve.Events.{sound_happens}
use Rattle.part_laws.specs.GivenDisks.{AreSoundDisks}
use Rattle.transcript_laws.specs.Choices.{told}
use Rattle.transcript_laws.specs.Reading.{last_lines}
use Rattle.transcript_laws.specs.Transcripts.{IsText, first_text}
use Rattle.transcript_laws.proofs.Checked.{printed}
use Rattle.transcript_laws.proofs.Texts.{same_rest, text_append}
use Rattle.transcript_laws.proofs.Told.{tells}

-- Two runs are the same.
abbrev pub SameRun : List TranscriptLine → Xinu → End → List TranscriptLine → Xinu → End → Type 0
SameRun lines last end others other ending = (lines ≡ others) × (last ≡ other) × (end ≡ ending)

-- the effect that the text of an event tells is what happened in it
effect_told : (s : Xinu) (e : Event) (first : List TranscriptLine) (mid : Xinu) (more : List TranscriptLine) → IsSound s
    → Happens s e first mid
    → begins_next more ≡ false
    → effect_of s e (told s e (text (first ++ more))) ≡ record { lines = first; state = mid; panics = panics_in s e }
effect_told s e first mid more k h none =
    subst (λ (l : List TranscriptLine). effect_of s e (told s e (text (l ++ more))) ≡ effect_of s e h.choice)
    (ap (λ (x : EventResult). x.lines) h.effect) (tells.right s e h.choice more k h.allowed none)
    ∙ h.effect

-- a text after the lines of the first event of a run
text_after : (first rest lines more : List TranscriptLine) → lines ≡ first ++ rest → text (lines ++ more) ≡ text first ++ text (rest ++ more)
text_after first rest lines more same =
    ap (λ (l : List TranscriptLine). text (l ++ more)) same
    ∙ ap text (append_assoc first rest more)
    ∙ text_append first (rest ++ more)

-- two runs that go on alike after the same event are the same
same_after : (o : Option End) (events : List Event) (first lines others more rest : List TranscriptLine) (mid last other : Xinu) (end ending : End)
    → ((l k : List TranscriptLine) → RunsTo mid events l last end → RunsTo mid events k other ending
    → text (l ++ more) ≡ text (k ++ rest) → SameRun l last end k other ending)
    → Follows o (λ l. RunsTo mid events l last end) first lines mid last end
    → Follows o (λ l. RunsTo mid events l other ending) first others mid other ending
    → text (lines ++ more) ≡ text (others ++ rest) → SameRun lines last end others other ending
same_after (Some with_event) events first lines others more rest mid last other end ending go (same, state, by) (alike, its_state, its_by) e =
    (same ∙ sym alike, state ∙ sym its_state, by ∙ sym its_by)
same_after None events first lines others more rest mid last other end ending go (l, runs, same) (k, its_runs, alike) e =
    let t = same_rest (text first) (text (l ++ more)) (text (k ++ rest))
    (sym (text_after first l lines more same) ∙ e ∙ text_after first k others rest alike) in
    let i = go l k runs its_runs t in
    (same ∙ ap (λ x. first ++ x) i.0 ∙ sym alike, i.1, i.2)

-- Two runs from one sound state through the same events are the same if their lines begin one text, and what follows them in it doesn't begin
-- with a call on files that took effect as the next one.
pub one_run : (events : List Event) (s : Xinu) (lines others : List TranscriptLine) (last other : Xinu) (end ending : End)
    (more rest : List TranscriptLine) → IsSound s → begins_next more ≡ false → begins_next rest ≡ false
    → RunsTo s events lines last end → RunsTo s events others other ending
    → text (lines ++ more) ≡ text (others ++ rest) → SameRun lines last end others other ending
one_run [] s lines others last other end ending more rest k m n (none, same, by) (no_others, same_other, by_other) e =
    (none ∙ sym no_others, same ∙ sym same_other, by ∙ sym by_other)
one_run (e ∷ events) s lines others last other end ending more rest k m n (mid, first, h, follows) (next, second, g, others_follow) e_same =
    let a = parted (end_with (panics_in s e) (is_over mid)) (λ l. RunsTo mid events l last end) first lines more mid last end m
    (λ l run. run_begins events mid l more last end m run) follows in
    let b = parted (end_with (panics_in s e) (is_over next)) (λ l. RunsTo next events l other ending) second others rest next other ending n
    (λ l run. run_begins events next l rest other ending n run) others_follow in
    let whole : text (first ++ a.tail) ≡ text (second ++ b.tail) = ap text (sym a.whole) ∙ e_same ∙ ap text b.whole in
    let x = effect_told s e first mid a.tail k h a.calm in
    let y = effect_told s e second next b.tail k g b.calm in
    let same : (record { lines = first; state = mid; panics = panics_in s e })
    ≡ (record { lines = second; state = next; panics = panics_in s e }) =
    sym x ∙ ap (λ t. effect_of s e (told s e t)) whole ∙ y in
    let goes : EventResult → Type 0 = λ r. Follows (end_with r.panics (is_over r.state))
    (λ l. RunsTo r.state events l other ending) r.lines others r.state other ending in
    same_after (end_with (panics_in s e) (is_over mid)) events first lines others more rest mid last other end ending
    (λ l j runs its_runs t. one_run events mid l j last other end ending more rest (sound_happens s e first mid k h) m n runs its_runs t)
    follows (subst goes (sym same) others_follow) e_same

-- A text is the transcript of one run.
pub transcripts_agree : (disks : Disks) (images : List Loaded) (events : List Event) (bytes : List ℕ) → length images < NPROC
    → AreSoundDisks disks
    → (t u : IsText disks images events bytes) → SameRun t.run.lines t.last t.run.end u.run.lines u.last u.run.end
transcripts_agree disks images events bytes few k t u =
    let r = t.run in
    let q = u.run in
    let b : Boots r.start ≡ Boots q.start = sym r.boots ∙ q.boots in
    let same : q.start ≡ r.start = cc in
    let ours = printed disks images events bytes t in
    let theirs = subst (λ (s : Xinu). bytes ≡ first_text s ++ text (q.lines ++ last_lines u.last q.end)) same (printed disks images events bytes u) in
    one_run events r.start r.lines q.lines t.last u.last r.end q.end (last_lines t.last r.end) (last_lines u.last q.end)
    (sound_boot_on disks images r.start few k r.boots) refl refl r.runs
    (subst (λ (s : Xinu). RunsTo s events q.lines u.last q.end) same q.runs)
    (same_rest (first_text r.start) (text (r.lines ++ last_lines t.last r.end)) (text (q.lines ++ last_lines u.last q.end)) (sym ours ∙ theirs))
