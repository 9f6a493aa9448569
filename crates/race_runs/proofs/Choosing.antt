-- When nothing is chosen in an event, and in the run so far.
use Rattle.std.proofs.Common.{◌≡◌, ◌∙◌, ℕ, zero, suc, ◌-◌, Bool, true, false, nat_lt, List, [], ◌∷◌, ◌++◌, length, Option, Some, None, refl, sym, ap, subst, ◌&&◌, not}
use Rattle.std.specs.Prelude.{is_some, if◌then◌else◌}
use Rattle.std.specs.List.{list_any}
use Rattle.std.proofs.lemmas.Bool.{or_parts}
use Rattle.std.proofs.lemmas.List.Folds.{list_any-append}
use Rattle.xinu_base.specs.declared.events.End.{End}
use Rattle.xinu_base.specs.declared.events.Event.{Event}
use Rattle.xinu_base.specs.declared.events.Event.TheVariants.{Step, Tick, Key, Tx, Disk0, Disk1, Fail0, Fail1, Dump}
use Rattle.xinu_base.specs.declared.lines.TranscriptLine.{TranscriptLine}
use Rattle.race_runs.specs.Forced.{has_calls, is_of_files}
use Rattle.xinu_laws.proofs.FileSyscalls.AtOnce.{next_is}
use Rattle.xinu_laws.specs.Outcomes.{ChoosesNothing}
use Rattle.xinu_model.proofs.Outcomes.{agree}
use Rattle.xinu_model.specs.Events.{Happens, chooses, next_file_call, panics_in, step_with}
use Rattle.xinu_model.specs.Files.Rest.{are_calls}
use Rattle.xinu_model.specs.Files.Syscalls.{files_of}
use Rattle.xinu_model.specs.Files.Work.{FileRequest, least_effects}
use Rattle.xinu_model.specs.Machine.{EventResult, Xinu}
use Rattle.xinu_model.specs.Runs.{end_with, is_over}

no_calls : (calls : List FileRequest) → are_calls calls ≡ false → calls ≡ []
no_calls [] none = refl
no_calls (a ∷ calls) none = cc

-- a step that tells of no call on files, and after which none is under way, made none
quiet_step : (old new : Xinu) (lines : List TranscriptLine) (c : ℕ) (found : Option FileRequest) → next_file_call old ≡ found
    → (step_with c found old).lines ≡ lines → (step_with c found old).state ≡ new
    → has_calls new ≡ false → list_any is_of_files lines ≡ false → nat_lt 0 (if is_some found then 1 else 0) ≡ false
quiet_step old new lines c None made told left after quiet = refl
quiet_step old new lines zero (Some a) made told left after quiet =
    let m = next_is old a made in
    let some : has_calls new ≡ true = ap has_calls (sym left) ∙ ap are_calls m.is in
    absurd (cc)
quiet_step old new lines (suc c) (Some a) made told left after quiet =
    let some : list_any is_of_files lines ≡ true = ap (list_any is_of_files) (sym told) in
    absurd (cc)

-- No call on files is under way before the event and after it, and none is told of in it: nothing was chosen.
pub quiet_event : (old : Xinu) (e : Event) (lines : List TranscriptLine) (new : Xinu) → Happens old e lines new → has_calls old ≡ false
    → has_calls new ≡ false → list_any is_of_files lines ≡ false → chooses old e ≡ false
quiet_event old Step lines new h before after quiet =
    quiet_step old new lines h.choice (next_file_call old) refl (ap (λ (x : EventResult). x.lines) h.effect) (ap (λ (x : EventResult). x.state) h.effect) after quiet
quiet_event old Disk1 lines new h before after quiet =
    ap (λ (calls : List FileRequest). nat_lt 0 (length calls - least_effects calls (files_of old))) (no_calls (files_of old).calls before)
quiet_event old Tick lines new h before after quiet = refl
quiet_event old Dump lines new h before after quiet = refl
quiet_event old (Key b) lines new h before after quiet = refl
quiet_event old Tx lines new h before after quiet = refl
quiet_event old Disk0 lines new h before after quiet = refl
quiet_event old Fail0 lines new h before after quiet = refl
quiet_event old Fail1 lines new h before after quiet = refl

-- what an event leaves if nothing is chosen in it
pub left_by : (old : Xinu) (e : Event) (lines others : List TranscriptLine) (new other : Xinu) → chooses old e ≡ false → Happens old e lines new
    → Happens old e others other → new ≡ other
left_by old e lines others new other never h k = ((agree old e).forced never lines others new other h k).1

-- nothing is chosen in it, nor in the events after it
pub none_with : (here : Xinu) (e : Event) (left events : List Event) (lines : List TranscriptLine) (next : Xinu) → events ≡ e ∷ left
    → Happens here e lines next → chooses here e ≡ false → ChoosesNothing next left → ChoosesNothing here events
none_with here e left events lines next is h never none =
    let P : List Event → Type 0 = λ es. ChoosesNothing here es in
    let Q : Xinu → Type 0 = λ s. ChoosesNothing s left in
    subst P (sym is) (never, λ others mid k goes. subst Q (left_by here e lines others next mid never h k) none)

-- nothing is chosen in it, and it ends the run
pub none_ends : (here : Xinu) (e : Event) (left events : List Event) (lines : List TranscriptLine) (next : Xinu) (end : End) → events ≡ e ∷ left
    → Happens here e lines next → chooses here e ≡ false → end_with (panics_in here e) (is_over next) ≡ Some end → ChoosesNothing here events
none_ends here e left events lines next end is h never ends =
    let P : List Event → Type 0 = λ es. ChoosesNothing here es in
    subst P (sym is) (
      never,
      λ others mid k goes.
          let same = left_by here e lines others next mid never h k in
          let goes_on : end_with (panics_in here e) (is_over next) ≡ None = ap (λ s. end_with (panics_in here e) (is_over s)) same ∙ goes in
          absurd (cc),
    )

-- ---- a run that is under way

-- A run so far: if it was quiet, no call on files is under way; and if no line was of one, nothing is chosen in the whole if nothing is in the rest.
pub record QuietSoFar (is_quiet : Bool) (start : Xinu) (all : List Event) (here : Xinu) (left : List Event) (lines : List TranscriptLine) : Type 0 where
  pub none : is_quiet ≡ true → has_calls here ≡ false
  pub nothing : is_quiet ≡ true → list_any is_of_files lines ≡ false → ChoosesNothing here left → ChoosesNothing start all

-- it stays quiet as long as no call on files is under way
still : (was busy is : Bool) → is ≡ (was && not busy) → is ≡ true → (was ≡ true) × (busy ≡ false)
still true false is same quiet = (refl, refl)
still true true is same quiet = absurd (cc)
still false busy is same quiet = absurd (cc)

pub quiet_start : (start : Xinu) (all : List Event) (is : Bool) → is ≡ (true && not (has_calls start)) → QuietSoFar is start all start all []
quiet_start start all is same = record { none = λ quiet. (still true (has_calls start) is same quiet).1; nothing = λ quiet told none. none }

-- one more event was quiet, if the run is quiet with it
quiet_with : (was is : Bool) (start : Xinu) (all : List Event) (here : Xinu) (e : Event) (events : List Event) (next : Xinu) (lines first : List TranscriptLine)
    → QuietSoFar was start all here events lines → Happens here e first next → is ≡ (was && not (has_calls next)) → is ≡ true
    → list_any is_of_files (lines ++ first) ≡ false → (chooses here e ≡ false) × (ChoosesNothing here events → ChoosesNothing start all)
quiet_with was is start all here e events next lines first so_far happens same quiet told =
    let both = still was (has_calls next) is same quiet in
    let apart = or_parts (list_any is_of_files lines) (list_any is_of_files first) (sym (list_any-append is_of_files lines first) ∙ told) in
    (quiet_event here e first next happens (so_far.none both.0) both.1 apart.1, so_far.nothing both.0 apart.0)

pub quiet_more : (was is : Bool) (start : Xinu) (all : List Event) (here : Xinu) (e : Event) (left events : List Event) (next : Xinu) (lines first : List TranscriptLine)
    → events ≡ e ∷ left → QuietSoFar was start all here events lines → Happens here e first next → is ≡ (was && not (has_calls next))
    → QuietSoFar is start all next left (lines ++ first)
quiet_more was is start all here e left events next lines first cut so_far happens same = record {
  none = λ quiet. (still was (has_calls next) is same quiet).1;
  nothing = λ quiet told none.
      let with = quiet_with was is start all here e events next lines first so_far happens same quiet told in
      with.1 (none_with here e left events first next cut happens with.0 none);
}

-- and that event ends the run
pub quiet_ended : (was is : Bool) (start : Xinu) (all : List Event) (here : Xinu) (e : Event) (left events : List Event) (next : Xinu) (lines first : List TranscriptLine) (end : End)
    → events ≡ e ∷ left → QuietSoFar was start all here events lines → Happens here e first next → is ≡ (was && not (has_calls next))
    → end_with (panics_in here e) (is_over next) ≡ Some end → is ≡ true → list_any is_of_files (lines ++ first) ≡ false → ChoosesNothing start all
quiet_ended was is start all here e left events next lines first end cut so_far happens same ends quiet told =
    let with = quiet_with was is start all here e events next lines first so_far happens same quiet told in
    with.1 (none_ends here e left events first next end cut happens with.0 ends)

-- no event is left
pub quiet_end : (is : Bool) (start : Xinu) (all : List Event) (here : Xinu) (events : List Event) (lines : List TranscriptLine) → events ≡ []
    → QuietSoFar is start all here events lines → is ≡ true → list_any is_of_files lines ≡ false → ChoosesNothing start all
quiet_end is start all here events lines none so_far quiet told =
    so_far.nothing quiet told (subst (λ (es : List Event). ChoosesNothing here es) (sym none) tt)
