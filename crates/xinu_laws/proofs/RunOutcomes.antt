-- A run is determined if nothing is chosen in it, and from a sound state by its text.
use Rattle.std.proofs.Common.{◌≡◌, ◌<◌, false, length, drop, List, [], ◌∷◌, ◌++◌, Option, Some, None, refl, sym, ap, ◌∙◌, subst, append_assoc}
use Rattle.std.proofs.lemmas.List.{append_cancel_left}
use Rattle.xinu_base.specs.declared.events.End.{End}
use Rattle.xinu_base.specs.declared.events.Event.{Event}
use Rattle.xinu_base.specs.declared.lines.FileMoment.TheVariants.{Next}
use Rattle.xinu_base.specs.declared.lines.TranscriptLine.{TranscriptLine}
use Rattle.xinu_base.specs.declared.lines.TranscriptLine.TheVariants as line
use Rattle.xinu_laws.proofs.FileSyscalls.Texts.{texts_agree}
use Rattle.xinu_laws.proofs.Preserve.Disks.{sound_boot_on}
use Rattle.xinu_laws.proofs.Preserve.Events.{sound_happens}
use Rattle.part_laws.specs.GivenDisks.{AreSoundDisks}
use Rattle.xinu_laws.specs.Outcomes.{ChoosesNothing}
use Rattle.xinu_model.proofs.Outcomes.{agree}
use Rattle.xinu_model.specs.Agree.{begins_next}
use Rattle.xinu_model.specs.Boot.{Disks, Loaded}
use Rattle.xinu_model.specs.Events.{panics_in}
use Rattle.xinu_model.specs.Machine.{Xinu}
use Rattle.xinu_model.specs.Runs.{is_over, end_with, Follows, RunsTo, IsTranscript}
use Rattle.xinu_model.specs.Sound.State.{IsSound}
use Rattle.xinu_model.specs.Text.{tables_of}

-- Two runs print the same, leave one state, and end in one way.
abbrev pub SameRun : List TranscriptLine → Xinu → End → List TranscriptLine → Xinu → End → Type 0
SameRun lines new end others other ending = (lines ≡ others) × (new ≡ other) × (end ≡ ending)

-- What follows an event in two runs, in which it printed the same and left one state, is the same if the rest of them is.
same_rest : (how : Option End) (events : List Event) (first lines others : List TranscriptLine) (mid new other : Xinu) (end ending : End)
    → ((rest more : List TranscriptLine) → lines ≡ first ++ rest → others ≡ first ++ more → how ≡ None
    → RunsTo mid events rest new end → RunsTo mid events more other ending → SameRun rest new end more other ending)
    → Follows how (λ rest. RunsTo mid events rest new end) first lines mid new end
    → Follows how (λ rest. RunsTo mid events rest other ending) first others mid other ending → SameRun lines new end others other ending
same_rest (Some how) events first lines others mid new other end ending same f g = (f.0 ∙ sym g.0, f.1 ∙ sym g.1, f.2 ∙ sym g.2)
same_rest None events first lines others mid new other end ending same f g =
    let k = same f.0 g.0 f.2 g.2 refl f.1 g.1 in (f.2 ∙ ap (λ l. first ++ l) k.0 ∙ sym g.2, k.1, k.2)

-- a run that goes on from an equal state, after equal lines
moved_follows : (old : Xinu) (e : Event) (events : List Event) (first second others : List TranscriptLine) (mid next other : Xinu) (ending : End)
    → first ≡ second → mid ≡ next
    → Follows (end_with (panics_in old e) (is_over next)) (λ rest. RunsTo next events rest other ending) second others next other ending
    → Follows (end_with (panics_in old e) (is_over mid)) (λ rest. RunsTo mid events rest other ending) first others mid other ending
moved_follows old e events first second others mid next other ending same_lines same_state f =
    subst (λ l. Follows (end_with (panics_in old e) (is_over mid)) (λ rest. RunsTo mid events rest other ending) l others mid other ending)
    (sym same_lines)
    (subst (λ s. Follows (end_with (panics_in old e) (is_over s)) (λ rest. RunsTo s events rest other ending) second others s other ending)
    (sym same_state) f)

-- A run in which nothing is chosen is determined.
pub runs_are_forced : (events : List Event) (old : Xinu) (lines others : List TranscriptLine) (new other : Xinu) (end ending : End)
    → ChoosesNothing old events → RunsTo old events lines new end → RunsTo old events others other ending
    → SameRun lines new end others other ending
runs_are_forced [] old lines others new other end ending none r s = (r.0 ∙ sym s.0, r.1 ∙ sym s.1, r.2 ∙ sym s.2)
runs_are_forced (e ∷ events) old lines others new other end ending none r s =
    let one = (agree old e).forced none.0 r.1 s.1 r.0 s.0 r.2 s.2 in
    same_rest (end_with (panics_in old e) (is_over r.0)) events r.1 lines others r.0 new other end ending
    (λ rest more _ _ goes_on f g. runs_are_forced events r.0 rest more new other end ending (none.1 r.1 r.0 r.2 goes_on) f g)
    r.3
    (moved_follows old e events r.1 s.1 others r.0 s.0 other ending one.0 one.1 s.3)

-- lines that don't begin with a call that took effect as the next one, one after another
begins_append : (first rest : List TranscriptLine) → begins_next first ≡ false → begins_next rest ≡ false
    → begins_next (first ++ rest) ≡ false
begins_append [] rest e f = f
begins_append (line.File p Next ∷ lines) rest e f = cc
begins_append (l ∷ lines) rest e f = e

-- the rest of a run's text after the lines of its first event
pub record Parted (first lines more : List TranscriptLine) : Type 0 where
  pub tail : List TranscriptLine
  pub calm : begins_next tail ≡ false
  pub whole : lines ++ more ≡ first ++ tail

-- it is what follows the run, or the rest of the run and what follows it
pub parted : (how : Option End) (Rest : List TranscriptLine → Type 0) (first lines more : List TranscriptLine) (mid new : Xinu) (end : End)
    → begins_next more ≡ false → ((rest : List TranscriptLine) → Rest rest → begins_next (rest ++ more) ≡ false)
    → Follows how Rest first lines mid new end → Parted first lines more
parted (Some how) Rest first lines more mid new end m calm f = record { tail = more; calm = m; whole = ap (λ l. l ++ more) f.0 }
parted None Rest first lines more mid new end m calm f =
    record { tail = f.0 ++ more; calm = calm f.0 f.1; whole = ap (λ l. l ++ more) f.2 ∙ append_assoc first f.0 more }

-- The text of a run doesn't begin so.
pub run_begins : (events : List Event) (old : Xinu) (lines more : List TranscriptLine) (new : Xinu) (end : End) → begins_next more ≡ false
    → RunsTo old events lines new end → begins_next (lines ++ more) ≡ false
run_begins [] old lines more new end m r = ap (λ l. begins_next (l ++ more)) r.0 ∙ m
run_begins (e ∷ events) old lines more new end m r =
    let p = parted (end_with (panics_in old e) (is_over r.0)) (λ rest. RunsTo r.0 events rest new end) r.1 lines more r.0 new end m
    (λ rest run. run_begins events r.0 rest more new end m run) r.3 in
    ap begins_next p.whole ∙ begins_append r.1 p.tail ((agree old e).first r.1 r.0 r.2) p.calm

-- From a sound state a text has one run.
pub texts_have_one_run : (events : List Event) (old : Xinu) (lines others : List TranscriptLine) (new other : Xinu) (end ending : End) (more rest : List TranscriptLine)
    → IsSound old → begins_next more ≡ false → begins_next rest ≡ false → RunsTo old events lines new end
    → RunsTo old events others other ending → lines ++ more ≡ others ++ rest → SameRun lines new end others other ending
texts_have_one_run [] old lines others new other end ending more rest sound m n r s same = (r.0 ∙ sym s.0, r.1 ∙ sym s.1, r.2 ∙ sym s.2)
texts_have_one_run (e ∷ events) old lines others new other end ending more rest sound m n r s same =
    let p = parted (end_with (panics_in old e) (is_over r.0)) (λ l. RunsTo r.0 events l new end) r.1 lines more r.0 new end m
    (λ l run. run_begins events r.0 l more new end m run) r.3 in
    let q = parted (end_with (panics_in old e) (is_over s.0)) (λ l. RunsTo s.0 events l other ending) s.1 others rest s.0 other ending n
    (λ l run. run_begins events s.0 l rest other ending n run) s.3 in
    let one = texts_agree old e r.1 s.1 r.0 s.0 p.tail q.tail sound p.calm q.calm r.2 s.2 (sym p.whole ∙ same ∙ q.whole) in
    same_rest (end_with (panics_in old e) (is_over r.0)) events r.1 lines others r.0 new other end ending
    (λ l k is are _ f g. texts_have_one_run events r.0 l k new other end ending more rest (sound_happens old e r.1 r.0 sound r.2) m n f g
    (append_cancel_left r.1 (l ++ more) (k ++ rest)
    (sym (append_assoc r.1 l more) ∙ sym (ap (λ x. x ++ more) is) ∙ same ∙ ap (λ x. x ++ rest) are ∙ append_assoc r.1 k rest)))
    r.3
    (moved_follows old e events r.1 s.1 others r.0 s.0 other ending one.0 one.1 s.3)

-- So a whole transcript has one run.
pub transcripts_have_one_run : (disks : Disks) (images : List Loaded) (events : List Event) (last other : Xinu) (all : List TranscriptLine)
    → length images < 64 → AreSoundDisks disks → IsTranscript disks images events last all → IsTranscript disks images events other all
    → last ≡ other
transcripts_have_one_run disks images events last other all few good t u =
    let booted = sym t.boots ∙ u.boots in
    let starts : t.start ≡ u.start = cc in
    let more = tables_of last ++ line.End t.end ∷ [] in
    let rest = tables_of other ++ line.End u.end ∷ [] in
    let run = subst (λ s. RunsTo s events u.lines other u.end) (sym starts) u.runs in
    let same = ap (drop 1) (sym t.whole ∙ u.whole) in
    (texts_have_one_run events t.start t.lines u.lines last other t.end u.end more rest
    (sound_boot_on disks images t.start few good t.boots) refl refl t.runs run
    (sym (append_assoc t.lines (tables_of last) (line.End t.end ∷ [])) ∙ same
    ∙ append_assoc u.lines (tables_of other) (line.End u.end ∷ []))).1
