-- Where a text that is read along a run isn't what the run prints: the lines before begin a run's, and no run's begin with more of its lines.
use Rattle.std.proofs.Common.{◌≡◌, ◌⊎◌, ◌≤◌, ℕ, Bool, false, List, [], ◌∷◌, ◌++◌, length, Option, Some, None, refl, sym, ap, ◌∙◌, subst, inl, inr, ⊎_elim, append_assoc, append-nil, arith}
use Rattle.std.proofs.lemmas.List.{length-append}
use Rattle.xinu_base.specs.declared.events.End.{End}
use Rattle.xinu_base.specs.declared.events.End.TheVariants.{Schedule}
use Rattle.xinu_base.specs.declared.events.Event.{Event}
use Rattle.xinu_base.specs.declared.lines.TranscriptLine.{TranscriptLine}
use Rattle.xinu_laws.proofs.FileSyscalls.Chosen.{choice_happens, effect_panics}
use Rattle.xinu_laws.proofs.Preserve.Events.{sound_happens}
use Rattle.xinu_model.specs.Agree.{begins_next}
use Rattle.xinu_model.specs.Events.{effect_of, panics_in}
use Rattle.xinu_model.specs.Machine.{EventResult, Xinu}
use Rattle.xinu_model.specs.Runs.{Follows, RunsTo, end_with, is_over}
use Rattle.xinu_model.specs.Sound.State.{IsSound}
use Rattle.xinu_model.specs.Text.{text}
use Rattle.transcript_laws.specs.Choices.{told}
use Rattle.transcript_laws.specs.Reading.{last_lines}
use Rattle.transcript_laws.proofs.Accepted.{run_begins}
use Rattle.transcript_laws.proofs.Texts.{same_rest, text_append}
use Rattle.transcript_laws.proofs.Told.{tells}
use Rattle.trace_places.specs.Places.{Place, due_lines, mistake_after, mistake_from}
use Rattle.trace_places.proofs.Chosen.{front_told}
use Rattle.trace_places.proofs.Fronts.{GoesPast, IsFront, fronts}
use Rattle.trace_places.proofs.Stops.{GoesOn, StopsIn, ends, front_length, stops, stuck}

-- what comes after an event: nothing if the run ends with it, else the rest of the run
abbrev pub Goes : Option End → Xinu → List Event → List TranscriptLine → Xinu → End → Type 0
Goes o mid events lines last end = Follows o (λ l. RunsTo mid events l last end) [] lines mid last end

-- the lines of a run after those of its first event
record Parted (o : Option End) (mid : Xinu) (events : List Event) (first lines : List TranscriptLine) (last : Xinu) (end : End) : Type 0 where
  tail : List TranscriptLine
  goes : Goes o mid events tail last end
  is : lines ≡ first ++ tail
  begins : begins_next (tail ++ last_lines last end) ≡ false

parted : (o : Option End) (mid : Xinu) (events : List Event) (first lines : List TranscriptLine) (last : Xinu) (end : End)
    → Follows o (λ l. RunsTo mid events l last end) first lines mid last end → Parted o mid events first lines last end
parted (Some with_event) mid events first lines last end (same, state, by) =
    record { tail = []; goes = (refl, state, by); is = same ∙ sym (append-nil first); begins = refl }
parted None mid events first lines last end (rest, runs, same) =
    record { tail = rest; goes = (rest, runs, refl); is = same; begins = run_begins events mid rest last end runs }

joined : (o : Option End) (mid : Xinu) (events : List Event) (first tail : List TranscriptLine) (last : Xinu) (end : End)
    → Goes o mid events tail last end → Follows o (λ l. RunsTo mid events l last end) first (first ++ tail) mid last end
joined (Some with_event) mid events first tail last end (none, state, by) = (ap (λ l. first ++ l) none ∙ append-nil first, state, by)
joined None mid events first tail last end (rest, runs, same) = (rest, runs, ap (λ l. first ++ l) same)

-- There is a run from each sound state on.
pub record Run (s : Xinu) (events : List Event) : Type 0 where
  pub lines : List TranscriptLine
  pub last : Xinu
  pub end : End
  pub runs : RunsTo s events lines last end

record RunAfter (o : Option End) (mid : Xinu) (events : List Event) : Type 0 where
  tail : List TranscriptLine
  last : Xinu
  end : End
  goes : Goes o mid events tail last end

run_after : (o : Option End) (mid : Xinu) (events : List Event) → Run mid events → RunAfter o mid events
run_after (Some end) mid events r = record { tail = []; last = mid; end = end; goes = (refl, refl, refl) }
run_after None mid events r = record { tail = r.lines; last = r.last; end = r.end; goes = (r.lines, r.runs, refl) }

pub a_run : (events : List Event) (s : Xinu) → IsSound s → Run s events
a_run [] s k = record { lines = []; last = s; end = Schedule; runs = (refl, refl, refl) }
a_run (e ∷ events) s k =
    let x = effect_of s e 0 in
    let h = choice_happens s e 0 k (omega arith) in
    let o = end_with (panics_in s e) (is_over x.state) in
    let r = run_after o x.state events (a_run events x.state (sound_happens s e x.lines x.state k h)) in
    record {
      lines = x.lines ++ r.tail;
      last = r.last;
      end = r.end;
      runs = (x.state, x.lines, h, joined o x.state events x.lines r.tail r.last r.end r.goes);
    }

-- A run goes on as an event does that the text tells.
record Same (s : Xinu) (e : Event) (events : List Event) (x : EventResult) (lines : List TranscriptLine) (last : Xinu) (end : End) : Type 0 where
  tail : List TranscriptLine
  goes : Goes (end_with (panics_in s e) (is_over x.state)) x.state events tail last end
  is : lines ≡ x.lines ++ tail

moved : (P : EventResult → Type 0) (x y z w : EventResult) → z ≡ w → y ≡ z → y ≡ x → P w → P x
moved P x y z w a b c h = subst P c (subst P (sym b) (subst P (sym a) h))

compared : (s : Xinu) (e : Event) (events : List Event) (rest : List ℕ) (lines : List TranscriptLine) (last : Xinu) (end : End)
    (f m : List TranscriptLine) (d : List ℕ) → IsSound s → RunsTo s (e ∷ events) lines last end → f ++ m ≡ lines ++ last_lines last end
    → rest ≡ text f ++ d
    → (IsFront f (effect_of s e (told s e rest)).lines) ⊎ (Same s e events (effect_of s e (told s e rest)) lines last end)
compared s e events rest lines last end f m d k (mid, first, h, follows) whole split =
    let o = end_with (panics_in s e) (is_over mid) in
    let p = parted o mid events first lines last end follows in
    let more = p.tail ++ last_lines last end in
    let first_is : first ≡ (effect_of s e h.choice).lines = sym (ap (λ (x : EventResult). x.lines) h.effect) in
    let all : f ++ m ≡ (effect_of s e h.choice).lines ++ more =
    whole ∙ ap (λ l. l ++ last_lines last end) p.is ∙ append_assoc first p.tail (last_lines last end) ∙ ap (λ l. l ++ more) first_is in
    let t = front_told s e h.choice f m more d k h.allowed p.begins all in
    let is_told : effect_of s e (told s e (text f ++ d)) ≡ effect_of s e (told s e rest) = ap (λ r. effect_of s e (told s e r)) (sym split) in
    let there : EventResult = record { lines = first; state = mid; panics = panics_in s e } in
    let Q : EventResult → Type 0 = λ x. Same s e events x lines last end in
    let same : Q there = record { tail = p.tail; goes = p.goes; is = p.is } in
    ⊎_elim (λ i. inl (subst (λ (x : EventResult). IsFront f x.lines) is_told i))
    (λ j. inr (moved Q (effect_of s e (told s e rest)) (effect_of s e (told s e (text f ++ d))) (effect_of s e h.choice) there h.effect j is_told same)) t

-- Where a text goes wrong that is read from a state on.
pub record IsMistakeFrom (s : Xinu) (events : List Event) (rest : List ℕ) (p : Place) : Type 0 where
  pub front : List TranscriptLine
  pub more : List TranscriptLine
  pub lines : List TranscriptLine
  pub last : Xinu
  pub end : End
  pub runs : RunsTo s events lines last end
  pub are : lines ++ last_lines last end ≡ front ++ due_lines p.due more
  pub splits : rest ≡ text front ++ p.left
  pub most : (others : List TranscriptLine) (other : Xinu) (ending : End) (f m : List TranscriptLine) (d : List ℕ)
      → RunsTo s events others other ending → f ++ m ≡ others ++ last_lines other ending → rest ≡ text f ++ d
      → length (text f) ≤ length (text front)

-- The same after an event.
record IsMistakeAfter (o : Option End) (mid : Xinu) (events : List Event) (rest : List ℕ) (p : Place) : Type 0 where
  front : List TranscriptLine
  more : List TranscriptLine
  lines : List TranscriptLine
  last : Xinu
  end : End
  goes : Goes o mid events lines last end
  are : lines ++ last_lines last end ≡ front ++ due_lines p.due more
  splits : rest ≡ text front ++ p.left
  most : (others : List TranscriptLine) (other : Xinu) (ending : End) (f m : List TranscriptLine) (d : List ℕ)
      → Goes o mid events others other ending → f ++ m ≡ others ++ last_lines other ending → rest ≡ text f ++ d
      → length (text f) ≤ length (text front)

-- the last lines of a run that ended so
last_are : (lines : List TranscriptLine) (last s : Xinu) (end with_event : End) → lines ≡ [] → last ≡ s → end ≡ with_event
    → lines ++ last_lines last end ≡ last_lines s with_event
last_are lines last s end with_event none same by =
    ap (λ l. l ++ last_lines last end) none ∙ ap (λ (x : Xinu). last_lines x end) same ∙ ap (λ (z : End). last_lines s z) by

mistake_then : (o : Option End) (mid : Xinu) (events : List Event) (rest : List ℕ) (p : Place)
    → (mistake_from mid events rest ≡ Some p → IsMistakeFrom mid events rest p)
    → mistake_after o (λ y. mistake_from mid events y) mid rest ≡ Some p → IsMistakeAfter o mid events rest p
mistake_then (Some end) mid events rest p go e =
    let x = ends (last_lines mid end) rest p e in
    record {
      front = x.front;
      more = x.more;
      lines = [];
      last = mid;
      end = end;
      goes = (refl, refl, refl);
      are = x.are;
      splits = x.splits;
      most = λ others other ending f m d goes whole split.
          x.most f m d (whole ∙ last_are others other mid ending end goes.0 goes.1 goes.2) split;
    }
mistake_then None mid events rest p go e =
    let x = go e in
    record {
      front = x.front;
      more = x.more;
      lines = x.lines;
      last = x.last;
      end = x.end;
      goes = (x.lines, x.runs, refl);
      are = x.are;
      splits = x.splits;
      most = λ others other ending f m d goes whole split.
          x.most others other ending f m d (subst (λ (l : List TranscriptLine). RunsTo mid events l other ending) (sym goes.2) goes.1) whole split;
    }

-- in the lines of the event
in_event : (s : Xinu) (e : Event) (events : List Event) (rest : List ℕ) (p : Place) → IsSound s
    → StopsIn (effect_of s e (told s e rest)).lines rest p → IsMistakeFrom s (e ∷ events) rest p
in_event s e events rest p k stop =
    let c = told s e rest in
    let x = effect_of s e c in
    let h = choice_happens s e c k (tells.allowed s e rest) in
    let o = end_with (panics_in s e) (is_over x.state) in
    let r = run_after o x.state events (a_run events x.state (sound_happens s e x.lines x.state k h)) in
    let after = r.tail ++ last_lines r.last r.end in
    let with_more : (more : List TranscriptLine) → x.lines ++ more ≡ stop.front ++ stop.line ∷ (stop.more ++ more) =
    λ more. ap (λ l. l ++ more) stop.are ∙ append_assoc stop.front (stop.line ∷ stop.more) more in
    record {
      front = stop.front;
      more = stop.more ++ after;
      lines = x.lines ++ r.tail;
      last = r.last;
      end = r.end;
      runs = (x.state, x.lines, h, joined o x.state events x.lines r.tail r.last r.end r.goes);
      are = append_assoc x.lines r.tail (last_lines r.last r.end) ∙ with_more after
          ∙ ap (λ d. stop.front ++ due_lines d (stop.more ++ after)) (sym stop.due);
      splits = stop.splits;
      most = λ others other ending f m d runs whole split.
          (let t = sym stop.splits ∙ split in
          ⊎_elim (λ i. stuck stop.front stop.line stop.more f i.0 p.left d stop.apart (sym i.1 ∙ stop.are) t)
          (λ (j : Same s e events x others other ending).
          (let more = j.tail ++ last_lines other ending in
          stuck stop.front stop.line (stop.more ++ more) f m p.left d stop.apart
          (whole ∙ ap (λ l. l ++ last_lines other ending) j.is ∙ append_assoc x.lines j.tail (last_lines other ending) ∙ with_more more) t))
          (compared s e events rest others other ending f m d k runs whole split));
    }

-- after the event
past_event : (s : Xinu) (e : Event) (events : List Event) (rest left : List ℕ) (p : Place) → IsSound s
    → (let x = effect_of s e (told s e rest) in rest ≡ text x.lines ++ left
    → IsMistakeAfter (end_with (panics_in s e) (is_over x.state)) x.state events left p → IsMistakeFrom s (e ∷ events) rest p)
past_event s e events rest left p k split_here a =
    let c = told s e rest in
    let x = effect_of s e c in
    let h = choice_happens s e c k (tells.allowed s e rest) in
    let o = end_with (panics_in s e) (is_over x.state) in
    let both = length-append (text x.lines) (text a.front) in
    let whole_front = ap length (text_append x.lines a.front) in
    let short : (f : List TranscriptLine) → IsFront f x.lines → length (text f) ≤ length (text (x.lines ++ a.front)) =
    λ f i. (let n = front_length f x.lines i in omega (arith, n, both, whole_front)) in
    record {
      front = x.lines ++ a.front;
      more = a.more;
      lines = x.lines ++ a.lines;
      last = a.last;
      end = a.end;
      runs = (x.state, x.lines, h, joined o x.state events x.lines a.lines a.last a.end a.goes);
      are = append_assoc x.lines a.lines (last_lines a.last a.end) ∙ ap (λ l. x.lines ++ l) a.are
          ∙ sym (append_assoc x.lines a.front (due_lines p.due a.more));
      splits = split_here ∙ ap (λ l. text x.lines ++ l) a.splits ∙ sym (append_assoc (text x.lines) (text a.front) p.left)
          ∙ ap (λ l. l ++ p.left) (sym (text_append x.lines a.front));
      most = λ others other ending f m d runs whole split.
          ⊎_elim (short f)
          (λ (j : Same s e events x others other ending).
          (let more = j.tail ++ last_lines other ending in
          let all : f ++ m ≡ x.lines ++ more =
          whole ∙ ap (λ l. l ++ last_lines other ending) j.is ∙ append_assoc x.lines j.tail (last_lines other ending) in
          ⊎_elim (short f)
          (λ (g : GoesPast f m x.lines more).
          (let texts : text x.lines ++ left ≡ text x.lines ++ (text g.0 ++ d) =
          sym split_here ∙ split ∙ ap (λ l. text l ++ d) g.1.0 ∙ ap (λ l. l ++ d) (text_append x.lines g.0) ∙ append_assoc (text x.lines) (text g.0) d in
          let n = a.most j.tail other ending g.0 m d j.goes g.1.1 (same_rest (text x.lines) left (text g.0 ++ d) texts) in
          let mine = ap length (ap text g.1.0 ∙ text_append x.lines g.0) in
          let parts = length-append (text x.lines) (text g.0) in
          omega (arith, n, mine, parts, both, whole_front)))
          (fronts f m x.lines more all)))
          (compared s e events rest others other ending f m d k runs whole split);
    }

pub mistake_is : (events : List Event) (s : Xinu) (rest : List ℕ) (p : Place) → IsSound s → mistake_from s events rest ≡ Some p
    → IsMistakeFrom s events rest p
mistake_is [] s rest p k e =
    let x = ends (last_lines s Schedule) rest p e in
    record {
      front = x.front;
      more = x.more;
      lines = [];
      last = s;
      end = Schedule;
      runs = (refl, refl, refl);
      are = x.are;
      splits = x.splits;
      most = λ others other ending f m d runs whole split.
          x.most f m d (whole ∙ last_are others other s ending Schedule runs.0 runs.1 runs.2) split;
    }
mistake_is (e ∷ events) s rest p k is =
    let c = told s e rest in
    let x = effect_of s e c in
    let h = choice_happens s e c k (tells.allowed s e rest) in
    let next : List ℕ → Option Place =
    λ more. mistake_after (end_with x.panics (is_over x.state)) (λ y. mistake_from x.state events y) x.state more in
    ⊎_elim (λ stop. in_event s e events rest p k stop)
    (λ (g : GoesOn x.lines rest next (Some p)).
    past_event s e events rest g.left p k g.splits
    (subst (λ (b : Bool). IsMistakeAfter (end_with b (is_over x.state)) x.state events g.left p) (effect_panics s e c k)
    (mistake_then (end_with x.panics (is_over x.state)) x.state events g.left p
    (λ y. mistake_is events x.state g.left p (sound_happens s e x.lines x.state k h) y) g.is)))
    (stops x.lines rest next p is)
