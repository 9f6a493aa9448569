-- A run is one if it printed the same.
use Rattle.std.proofs.Common.{◌≡◌, ◌≢◌, ◌∙◌, ◌<◌, ℕ, Bool, true, false, List, [], take, Some, append-nil, refl, sym, ap, subst, arith}
use Rattle.xinu_base.specs.declared.events.Event.{Event}
use Rattle.xinu_base.specs.declared.events.End.{End}
use Rattle.xinu_base.specs.declared.events.End.TheVariants.{Schedule}
use Rattle.xinu_base.specs.declared.lines.TranscriptLine.{TranscriptLine}
use Rattle.transcript_laws.proofs.OneRun.{one_run as runs_agree}
use Rattle.xinu_model.specs.Boot.{Boots, Disks, boot_on}
use Rattle.xinu_model.specs.Machine.{Xinu}
use Rattle.xinu_model.specs.Runs.{RunsTo}
use Rattle.xinu_model.specs.Sound.State.{IsSound}
use Rattle.xinu_model.specs.Text.{text}
use Rattle.replayed_run.proofs.Told.{first-kept}
use Rattle.replayed_run.specs.Replayed.{IsReplayed, IsSameRun, Replayed}
use Rattle.replayed_run.specs.Told.{text_of_first}
use Rattle.run_inputs.specs.Starts.{StartsIn}
use Rattle.run_inputs.specs.InputFaults.{images_loaded}

-- the images start in one state
one-start : (disks other : Disks) (files others : List (List ℕ)) (start begin : Xinu) → other ≡ disks → others ≡ files → StartsIn disks files start
    → StartsIn other others begin → begin ≡ start
one-start disks other files others start begin same_disks same_files a b =
    let found : Some b.images ≡ Some a.images = sym b.loaded ∙ ap images_loaded same_files ∙ a.loaded in
    let images : b.images ≡ a.images = cc in
    let boots : Boots begin ≡ Boots start =
    sym b.boots ∙ ap (λ (d : Disks). boot_on d b.images) same_disks ∙ ap (boot_on disks) images ∙ a.boots in
    cc

-- Two runs lead to the same state, and end in the same way.
record AreAlike (last new : Xinu) (end ending : End) : Type 0 where
  state : new ≡ last
  by : ending ≡ end

-- a run of the same events that printed the same, from the same start
one-end : (events others : List Event) (start begin last new : Xinu) (lines more : List TranscriptLine) (end ending : End) → others ≡ events → begin ≡ start
    → text more ≡ text lines → IsSound start → RunsTo start events lines last end → RunsTo begin others more new ending → AreAlike last new end ending
one-end events others start begin last new lines more end ending same_events same_start same_text sound run again =
    let P : List Event → Type 0 = λ es. RunsTo begin es more new ending in
    let Q : Xinu → Type 0 = λ s. RunsTo s events more new ending in
    let second = subst Q same_start (subst P same_events again) in
    let agree = runs_agree events start more lines new last ending end [] [] sound refl refl second run
    (ap text (append-nil more) ∙ same_text ∙ ap text (sym (append-nil lines))) in
    record { state = agree.1; by = agree.2 }

-- two places of one run after as many events
alike : (r s : Replayed) (a : IsReplayed r) (b : IsReplayed s) → IsSameRun r s → r.known ≡ true → s.taken ≡ r.taken → AreAlike r.state s.state a.end b.end
alike r s a b same known taken =
    let events : take s.taken s.events ≡ take r.taken r.events =
    ap (λ (n : ℕ). take n s.events) taken ∙ ap (take r.taken) same.inputs.same_events in
    let texts : text b.lines ≡ text a.lines =
    b.printed (same.known known) ∙ ap (text_of_first s.told) taken
    ∙ first-kept r.told s.told r.taken same.grows (a.within known) ∙ sym (a.printed known) in
    one-end (take r.taken r.events) (take s.taken s.events) a.start b.start r.state s.state a.lines b.lines a.end b.end events
    (one-start r.disks s.disks r.files s.files a.start b.start same.inputs.same_disks same.inputs.same_files a.starts b.starts) texts a.sound a.runs b.runs

-- they are in one state
pub one-run : (r s : Replayed) (a : IsReplayed r) (b : IsReplayed s) → IsSameRun r s → r.known ≡ true → s.taken ≡ r.taken → s.state ≡ r.state
one-run r s a b same known taken = (alike r s a b same known taken).state

-- whether a run is over, by how it ended
both-over : (o p : Bool) (end ending : End) → ending ≡ end → (o ≡ false → end ≡ Schedule) → (o ≡ true → end ≢ Schedule)
    → (p ≡ false → ending ≡ Schedule) → (p ≡ true → ending ≢ Schedule) → p ≡ o
both-over true true end ending same goes ends goes_too ends_too = refl
both-over true false end ending same goes ends goes_too ends_too = absurd (ends refl (sym same ∙ goes_too refl))
both-over false true end ending same goes ends goes_too ends_too = absurd (ends_too refl (same ∙ goes refl))
both-over false false end ending same goes ends goes_too ends_too = refl

-- and over in both, or in none
pub one-over : (r s : Replayed) (a : IsReplayed r) (b : IsReplayed s) → IsSameRun r s → r.known ≡ true → s.taken ≡ r.taken → s.over ≡ r.over
one-over r s a b same known taken =
    both-over r.over s.over a.end b.end ((alike r s a b same known taken).by) a.goes_on a.ends b.goes_on b.ends

-- so the run stands there again
pub one-place : (r s : Replayed) (a : IsReplayed r) (b : IsReplayed s) → IsSameRun r s → r.known ≡ true → s.taken ≡ r.taken
    → s ≡ record r { told = s.told; known = s.known }
one-place r s a b same known taken =
    ap (λ (d : Disks). record s { disks = d }) same.inputs.same_disks
    ∙ ap (λ (f : List (List ℕ)). record s { disks = r.disks; files = f }) same.inputs.same_files
    ∙ ap (λ (e : List Event). record s { disks = r.disks; files = r.files; events = e }) same.inputs.same_events
    ∙ ap (λ (n : ℕ). record s { disks = r.disks; files = r.files; events = r.events; taken = n }) taken
    ∙ ap (λ (x : Xinu). record r { state = x; over = s.over; told = s.told; known = s.known }) (one-run r s a b same known taken)
    ∙ ap (λ (o : Bool). record r { over = o; told = s.told; known = s.known }) (one-over r s a b same known taken)

-- what goes on isn't over
not-over : (o : Bool) (end : End) → end ≡ Schedule → (o ≡ true → end ≢ Schedule) → o ≡ false
not-over true end same ends = absurd (ends refl same)
not-over false end same ends = refl

-- a run that came to one place wasn't over at an earlier one
pub over-later : (r s : Replayed) (a : IsReplayed r) (b : IsReplayed s) → IsSameRun r s → r.known ≡ true → s.taken < r.taken → s.over ≡ false
over-later r s a b same known less =
    let here = a.before s.taken less in
    let texts : text b.lines ≡ text here.lines =
    b.printed (same.known known)
    ∙ first-kept r.told s.told s.taken same.grows (let within = a.within known in omega (arith, within, less)) ∙ sym (here.printed known) in
    let same_end = one-end (take s.taken r.events) (take s.taken s.events) a.start b.start here.state s.state here.lines b.lines Schedule b.end
    (ap (take s.taken) same.inputs.same_events)
    (one-start r.disks s.disks r.files s.files a.start b.start same.inputs.same_disks same.inputs.same_files a.starts b.starts) texts a.sound here.runs b.runs in
    not-over s.over b.end same_end.by b.ends
