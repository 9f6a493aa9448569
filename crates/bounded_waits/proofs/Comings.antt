-- A run with enough completions comes to a state in which who waited for a disk has its answer, or kills it.
use Rattle.std.proofs.Common.{◌≡◌, ◌⊎◌, inl, inr, ⊎_elim, ℕ, ◌+◌, ◌<◌, ◌≤◌, Bool, true, false, List, [], ◌∷◌, ◌++◌, Option, Some, None, refl, sym, ap, subst, ◌∙◌, arith}
use Rattle.std.specs.List.{list_any}
use Rattle.std.proofs.lemmas.Bool.{or_left, or_right}
use Rattle.std.proofs.lemmas.List.Folds.{list_any-append}
use Rattle.xinu_base.specs.declared.events.End.{End}
use Rattle.xinu_base.specs.declared.events.End.TheVariants.{Schedule}
use Rattle.xinu_base.specs.declared.events.Event.{Event}
use Rattle.xinu_base.specs.declared.lines.TranscriptLine.{TranscriptLine}
use Rattle.xinu_model.specs.Events.{panics_in, Happens}
use Rattle.xinu_model.specs.Files.Syscalls.{files_of}
use Rattle.xinu_model.specs.Machine.{Xinu}
use Rattle.xinu_model.specs.RawDisk.Calls.{disk_of}
use Rattle.xinu_model.specs.Runs.{is_over, end_with, Follows, RunsTo}
use Rattle.xinu_model.specs.Sound.State.{IsSound}
use Rattle.xinu_laws.proofs.Preserve.Events.{sound_happens}
use Rattle.bounded_waits.specs.Completions.{file_completions, disk_completions, in_all}
use Rattle.bounded_waits.specs.Ends.{kills, HasAnswer, IsKilled, EndsFiles, EndsDisk, ComesToAnswer}
use Rattle.bounded_waits.specs.Places.{waits_for_files, waits_for_disk, completions_left, services_left}
use Rattle.bounded_waits.proofs.Costs.{left_over}
use Rattle.bounded_waits.proofs.DiskEvents.{disk_event}
use Rattle.bounded_waits.proofs.FileEvents.{files_event}
use Rattle.bounded_waits.proofs.Served.{few_turns}

-- what ends a run with an event isn't the end of the schedule
pub not_by_schedule : (panics over : Bool) → end_with panics over ≡ Some Schedule → ⊥
not_by_schedule true over e = absurd (cc)
not_by_schedule false true e = absurd (cc)
not_by_schedule false false e = absurd (cc)

-- who waits for files has a completion left
pub some_completion_left : (p : ℕ) (s : Xinu) → IsSound s → 0 < completions_left p (files_of s)
some_completion_left p s k = left_over p (files_of s) (few_turns (files_of s) k.devices.files.itself)

-- A wait of p: while it lasts a completion is left, and each event ends it, or brings its end nearer by its completions.
pub record IsBounded (p : ℕ) (Waits : Xinu → Type 0) (left : Xinu → ℕ) (count : Event → ℕ) : Type 0 where
  pub some : (s : Xinu) → IsSound s → 0 < left s
  pub event : (old : Xinu) (e : Event) (lines : List TranscriptLine) (new : Xinu) → IsSound old → Waits old → Happens old e lines new
      → EndsDisk p lines new ⊎ (Waits new × (left new + count e ≤ left old))

files_bounded : (p : ℕ) → IsBounded p (λ s. waits_for_files p (files_of s) ≡ true) (λ s. completions_left p (files_of s)) file_completions
files_bounded p = record {
  some = some_completion_left p;
  event = λ old e lines new k h one.
      ⊎_elim (λ (f : EndsFiles p lines new). inl (⊎_elim (λ g. inl g.1) (λ g. inr g) f)) (λ f. inr f) (files_event p old e lines new k h one);
}

disk_bounded : (p : ℕ) → IsBounded p (λ s. waits_for_disk p (disk_of s) ≡ true) (λ s. services_left p (disk_of s)) disk_completions
disk_bounded p = record { some = λ s k. omega arith; event = disk_event p }

module _ (p : ℕ) where
  -- a run from old through these events, with these lines, comes to an answer or kills p
  abbrev Comes : Xinu → List Event → List TranscriptLine → Type 0
  Comes old events lines = ComesToAnswer p old events ⊎ (list_any (kills p) lines ≡ true)

  -- the first event ends the wait
  comes_now : (old : Xinu) (e : Event) (events : List Event) (first rest : List TranscriptLine) (mid : Xinu) → Happens old e first mid
      → end_with (panics_in old e) (is_over mid) ≡ None → EndsDisk p first mid → Comes old (e ∷ events) (first ++ rest)
  comes_now old e events first rest mid one goes f =
      ⊎_elim
      (λ (answer : HasAnswer p mid). inl (record {
        first = e ∷ [];
        later = events;
        split = refl;
        lines = first ++ [];
        state = mid;
        runs = (mid, first, one, subst (λ how. Follows how (λ more. RunsTo mid [] more mid Schedule) first (first ++ []) mid mid Schedule) (sym goes) ([], (refl, refl, refl), refl));
        answer = answer;
      }))
      (λ (killed : IsKilled p first). inr (list_any-append (kills p) first rest ∙ or_left (list_any (kills p) first) _ killed)) f

  -- a later one does
  comes_later : (old : Xinu) (e : Event) (events : List Event) (first rest : List TranscriptLine) (mid : Xinu) → Happens old e first mid
      → end_with (panics_in old e) (is_over mid) ≡ None → Comes mid events rest → Comes old (e ∷ events) (first ++ rest)
  comes_later old e events first rest mid one goes f =
      ⊎_elim
      (λ (c : ComesToAnswer p mid events). inl (record {
        first = e ∷ c.first;
        later = c.later;
        split = ap (λ l. e ∷ l) c.split;
        lines = first ++ c.lines;
        state = c.state;
        runs = (mid, first, one, subst (λ how. Follows how (λ more. RunsTo mid c.first more c.state Schedule) first (first ++ c.lines) mid c.state Schedule) (sym goes) (c.lines, c.runs, refl));
        answer = c.answer;
      }))
      (λ (killed : list_any (kills p) rest ≡ true). inr (list_any-append (kills p) first rest ∙ or_right (list_any (kills p) first) _ killed)) f

  -- what follows the first event is the rest of the run
  comes_on : (old : Xinu) (e : Event) (events : List Event) (first lines : List TranscriptLine) (mid new : Xinu) (how : Option End)
      → end_with (panics_in old e) (is_over mid) ≡ how
      → ((rest : List TranscriptLine) → end_with (panics_in old e) (is_over mid) ≡ None → RunsTo mid events rest new Schedule → Comes old (e ∷ events) (first ++ rest))
      → Follows how (λ rest. RunsTo mid events rest new Schedule) first lines mid new Schedule → Comes old (e ∷ events) lines
  comes_on old e events first lines mid new (Some how) is go f =
      absurd (not_by_schedule (panics_in old e) (is_over mid) (is ∙ ap Some (sym f.2)))
  comes_on old e events first lines mid new None is go f = subst (Comes old (e ∷ events)) (sym f.2) (go f.0 is f.1)

  comes : {Waits : Xinu → Type 0} {left : Xinu → ℕ} {count : Event → ℕ} → IsBounded p Waits left count → (events : List Event) (old : Xinu)
      (lines : List TranscriptLine) (new : Xinu) → IsSound old → Waits old → RunsTo old events lines new Schedule → left old ≤ in_all count events
      → Comes old events lines
  comes b [] old lines new k h r enough = let some = b.some old k in absurd (omega (arith, some, enough))
  comes {Waits} {left} {count} b (e ∷ events) old lines new k h r enough =
      let mid = r.0 in
      let first = r.1 in
      comes_on old e events first lines mid new (end_with (panics_in old e) (is_over mid)) refl
      (λ rest goes run. ⊎_elim (λ (f : EndsDisk p first mid). comes_now old e events first rest mid r.2 goes f)
      (λ (f : Waits mid × (left mid + count e ≤ left old)). let less = f.1 in
      comes_later old e events first rest mid r.2 goes
      (comes b events mid rest new (sound_happens old e first mid k r.2) f.0 run (omega (arith, less, enough))))
      (b.event old e first mid k h r.2)) r.3

  -- A call on files is answered in a run with enough good completions,
  pub files_answered : (events : List Event) (old : Xinu) (lines : List TranscriptLine) (new : Xinu) → IsSound old
      → waits_for_files p (files_of old) ≡ true → RunsTo old events lines new Schedule
      → completions_left p (files_of old) ≤ in_all file_completions events → Comes old events lines
  files_answered events old lines new k h r enough = comes (files_bounded p) events old lines new k h r enough

  -- and a request of the raw disk in one with enough completions.
  pub disk_answered : (events : List Event) (old : Xinu) (lines : List TranscriptLine) (new : Xinu) → IsSound old
      → waits_for_disk p (disk_of old) ≡ true → RunsTo old events lines new Schedule
      → services_left p (disk_of old) ≤ in_all disk_completions events → Comes old events lines
  disk_answered events old lines new k h r enough = comes (disk_bounded p) events old lines new k h r enough
