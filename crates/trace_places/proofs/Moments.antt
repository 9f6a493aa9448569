-- When a run prints the line that is due: a run of the events so far is kept, of which the text has all lines.
use Rattle.std.proofs.Common.{◌≡◌, ◌∙◌, ◌+◌, ℕ, Bool, true, false, if◌then◌else◌, List, [], ◌∷◌, ◌++◌, drop, length, Option, Some, None, refl, sym, ap, subst, ⊎_elim, append_assoc, append-nil, arith}
use Rattle.std.specs.Prelude.{IfOk, IfSome, Result, Ok, Err}
use Rattle.std.proofs.lemmas.List.{length-append}
use Rattle.xinu_base.specs.declared.NoMemory.{NoMemory}
use Rattle.xinu_base.specs.declared.events.End.{End}
use Rattle.xinu_base.specs.declared.events.End.TheVariants.{Schedule}
use Rattle.xinu_base.specs.declared.events.Event.{Event}
use Rattle.xinu_base.specs.declared.lines.TranscriptLine.{TranscriptLine}
use Rattle.xinu_laws.proofs.FileSyscalls.Chosen.{choice_happens, effect_panics}
use Rattle.xinu_model.specs.Events.{Happens, effect_of, panics_in}
use Rattle.xinu_model.specs.Machine.{EventResult, Xinu}
use Rattle.xinu_model.specs.Runs.{Follows, RunsTo, end_with, is_over}
use Rattle.xinu_model.specs.Sound.State.{IsSound}
use Rattle.xinu_model.specs.Text.{line_text, text}
use Rattle.xinu_base.specs.declared.lines.TranscriptLine.TheVariants as line
use Rattle.transcript_laws.specs.Choices.{told}
use Rattle.transcript_laws.specs.Reading.{last_lines, starts_with}
use Rattle.transcript_laws.specs.Transcripts.{first_text}
use Rattle.transcript_laws.proofs.Texts.{begun, text_append}
use Rattle.reference_check.specs.Places.{after_bytes}
use Rattle.transcript_laws.proofs.Told.{tells}
use Rattle.trace_places.specs.Moments.{IsAtEnd, IsInEvent, IsWhen}
use Rattle.trace_places.specs.Places.{Place, mistake_in, mistake_past}
use Rattle.trace_places.specs.Reading.{FoundAs, TookSo, place_of, read_to}
use Rattle.trace_places.specs.declared.mistakes.Mistake.{Mistake}
use Rattle.trace_places.specs.declared.mistakes.When.{When}
use Rattle.trace_places.specs.declared.mistakes.When.TheVariants as when
use Rattle.trace_places.specs.declared.walk.Taken.{Taken}
use Rattle.trace_places.proofs.Joined.{run-joined}
use Rattle.trace_places.proofs.Stops.{GoesOn, StopsIn, ends, stops}

-- ---- the lines of an event in a text

abbrev place : List ℕ → Option TranscriptLine → Place
place left due = record { left = left; due = due }

-- the text has all of them
took_all : (x : EventResult) (bytes : List ℕ) (t : Taken) (due : Option TranscriptLine) (new : Xinu) → TookSo x bytes t due new → due ≡ None
    → bytes ≡ text x.lines ++ t.rest.now
took_all x bytes t due new took none =
    let p : Place = record { left = t.rest.now; due = None } in
    let next : List ℕ → Option Place = λ more. Some (record { left = more; due = None }) in
    let is : mistake_in x.lines bytes next ≡ Some p = took.reads next ∙ ap (λ d. read_to t.rest.now d next) none in
    ⊎_elim (λ (stop : StopsIn x.lines bytes p). stopped stop.line stop.due)
    (λ (g : GoesOn x.lines bytes next (Some p)). g.splits ∙ ap (λ r. text x.lines ++ r) (same g.left g.is)) (stops x.lines bytes next p is)
  where
    stopped : (l : TranscriptLine) → None ≡ Some l → bytes ≡ text x.lines ++ t.rest.now
    stopped l e = absurd (cc)

    same : (left : List ℕ) → Some (place left None) ≡ Some (place t.rest.now None) → left ≡ t.rest.now
    same left e = let both : place left None ≡ place t.rest.now None = cc in ap (λ (q : Place). q.left) both

-- it has those before the one that is due
took_some : (x : EventResult) (bytes : List ℕ) (t : Taken) (due : Option TranscriptLine) (new : Xinu) (l : TranscriptLine)
    → TookSo x bytes t due new → due ≡ Some l → StopsIn x.lines bytes (record { left = t.rest.now; due = Some l })
took_some x bytes t due new l took some =
    let p : Place = record { left = t.rest.now; due = Some l } in
    let next : List ℕ → Option Place = λ more. None in
    let is : mistake_in x.lines bytes next ≡ Some p = took.reads next ∙ ap (λ d. read_to t.rest.now d next) some in
    ⊎_elim (λ (stop : StopsIn x.lines bytes p). stop) (λ (g : GoesOn x.lines bytes next (Some p)). nothing g.is) (stops x.lines bytes next p is)
  where
    nothing : None ≡ Some (place t.rest.now (Some l)) → StopsIn x.lines bytes (record { left = t.rest.now; due = Some l })
    nothing e = absurd (cc)

-- ---- a run of the events so far

-- A run of so many events came to a state, and none of them ended it. The text has their lines, and these events are left.
pub record Came (s : Xinu) (events : List Event) (bytes : List ℕ) (n : ℕ) (now : Xinu) (left : List Event) (rest : List ℕ) : Type 0 where
  pub earlier : List Event
  pub are : events ≡ earlier ++ left
  pub many : n ≡ length earlier
  pub lines : List TranscriptLine
  pub runs : RunsTo s earlier lines now Schedule
  pub splits : bytes ≡ text lines ++ rest

pub came_none : (s : Xinu) (events : List Event) (bytes : List ℕ) → Came s events bytes 0 s events bytes
came_none s events bytes = record { earlier = []; are = refl; many = refl; lines = []; runs = (refl, refl, refl); splits = refl }

-- a text with lines and others after them
split_more : (bytes rest left : List ℕ) (lines more : List TranscriptLine) → bytes ≡ text lines ++ rest → rest ≡ text more ++ left
    → bytes ≡ text (lines ++ more) ++ left
split_more bytes rest left lines more first second =
    first ∙ ap (λ r. text lines ++ r) second ∙ sym (append_assoc (text lines) (text more) left) ∙ ap (λ t. t ++ left) (sym (text_append lines more))

-- what the text tells of an event happens
happens_told : (now : Xinu) (e : Event) (rest : List ℕ) → IsSound now
    → (let x = effect_of now e (told now e rest) in Happens now e x.lines x.state)
happens_told now e rest sound = choice_happens now e (told now e rest) sound (tells.allowed now e rest)

-- how a run ends with it
ends_told : (now new : Xinu) (e : Event) (rest : List ℕ) (t : Taken) (due : Option TranscriptLine) (end : Option End) → IsSound now
    → (let x = effect_of now e (told now e rest) in TookSo x rest t due new → t.end ≡ end → end_with (panics_in now e) (is_over x.state) ≡ end)
ends_told now new e rest t due end sound took is =
    let x = effect_of now e (told now e rest) in
    ap (λ b. end_with b (is_over x.state)) (sym (effect_panics now e (told now e rest) sound)) ∙ sym took.end ∙ is

-- one event more
pub came_more : (s now new : Xinu) (events left : List Event) (bytes rest : List ℕ) (n : ℕ) (e : Event) (t : Taken) (due : Option TranscriptLine)
    → Came s events bytes n now (e ∷ left) rest → IsSound now → TookSo (effect_of now e (told now e rest)) rest t due new → due ≡ None
    → t.end ≡ None → Came s events bytes (n + 1) new left t.rest.now
came_more s now new events left bytes rest n e t due m sound took none goes_on =
    let x = effect_of now e (told now e rest) in
    let none_ends = ends_told now new e rest t due None sound took goes_on in
    let follows : Follows (end_with (panics_in now e) (is_over x.state)) (λ l. RunsTo x.state [] l x.state Schedule) x.lines x.lines x.state x.state Schedule =
    subst (λ (o : Option End). Follows o (λ l. RunsTo x.state [] l x.state Schedule) x.lines x.lines x.state x.state Schedule) (sym none_ends)
    ([], (refl, refl, refl), sym (append-nil x.lines)) in
    let one : RunsTo now (e ∷ []) x.lines x.state Schedule = (x.state, x.lines, happens_told now e rest sound, follows) in
    let many = m.many in
    let longer = length-append m.earlier (e ∷ []) in
    record {
      earlier = m.earlier ++ e ∷ [];
      are = m.are ∙ sym (append_assoc m.earlier (e ∷ []) left);
      many = omega (arith, many, longer);
      lines = m.lines ++ x.lines;
      runs = subst (λ (u : Xinu). RunsTo s (m.earlier ++ e ∷ []) (m.lines ++ x.lines) u Schedule) (sym took.state)
          (run-joined m.earlier (e ∷ []) s now x.state m.lines x.lines Schedule m.runs one);
      splits = split_more bytes rest t.rest.now m.lines x.lines m.splits (took_all x rest t due new took none);
    }

-- how many events there are
pub came_many : (s : Xinu) (events : List Event) (bytes : List ℕ) (n : ℕ) (now : Xinu) (left : List Event) (rest : List ℕ)
    → Came s events bytes n now left rest → n + length left ≡ length events
came_many s events bytes n now left rest m =
    let many = m.many in
    let whole = ap (λ (l : List Event). length l) m.are in
    let both = length-append m.earlier left in
    omega (arith, many, whole, both)

-- ---- when the line is due

-- in an event
pub in_event : (s now new : Xinu) (events left : List Event) (bytes rest : List ℕ) (n : ℕ) (e : Event) (t : Taken) (due : Option TranscriptLine)
    (l : TranscriptLine) (number process : ℕ) → Came s events bytes n now (e ∷ left) rest → IsSound now
    → TookSo (effect_of now e (told now e rest)) rest t due new → due ≡ Some l → number ≡ n + 1 → process ≡ now.tables.current
    → IsInEvent s events (first_text s ++ bytes) t.rest.now (Some l) (record { number = number; event = e; process = process })
in_event s now new events left bytes rest n e t due l number process m sound took some next current =
    let x = effect_of now e (told now e rest) in
    let stop = took_some x rest t due new l took some in
    record {
      earlier = m.earlier;
      later = left;
      are = m.are;
      number = next ∙ ap (λ k. k + 1) m.many;
      lines = m.lines;
      ahead = now;
      runs = m.runs;
      process = current;
      begun = stop.front;
      line = stop.line;
      more = stop.more;
      new = x.state;
      happens = subst (λ (ls : List TranscriptLine). Happens now e ls x.state) stop.are (happens_told now e rest sound);
      is_due = stop.due;
      splits = ap (λ b. first_text s ++ b) (split_more bytes rest t.rest.now m.lines stop.front m.splits stop.splits)
          ∙ sym (append_assoc (first_text s) (text (m.lines ++ stop.front)) t.rest.now);
    }

-- A run of all events came to its end, and the text has their lines.
pub record Ended (s : Xinu) (events : List Event) (bytes : List ℕ) (last : Xinu) (end : End) (rest : List ℕ) : Type 0 where
  pub lines : List TranscriptLine
  pub runs : RunsTo s events lines last end
  pub splits : bytes ≡ text lines ++ rest

-- with the schedule
pub ended_all : (s now : Xinu) (events : List Event) (bytes rest : List ℕ) (n : ℕ) → Came s events bytes n now [] rest
    → Ended s events bytes now Schedule rest
ended_all s now events bytes rest n m = record {
  lines = m.lines;
  runs = subst (λ (l : List Event). RunsTo s l m.lines now Schedule) (sym (m.are ∙ append-nil m.earlier)) m.runs;
  splits = m.splits;
}

-- with an event
pub ended_with : (s now new : Xinu) (events left : List Event) (bytes rest : List ℕ) (n : ℕ) (e : Event) (t : Taken) (due : Option TranscriptLine)
    (end : End) → Came s events bytes n now (e ∷ left) rest → IsSound now → TookSo (effect_of now e (told now e rest)) rest t due new
    → due ≡ None → t.end ≡ Some end → Ended s events bytes new end t.rest.now
ended_with s now new events left bytes rest n e t due end m sound took none is =
    let x = effect_of now e (told now e rest) in
    let by = ends_told now new e rest t due (Some end) sound took is in
    let follows : Follows (end_with (panics_in now e) (is_over x.state)) (λ l. RunsTo x.state left l x.state end) x.lines x.lines x.state x.state end =
    subst (λ (o : Option End). Follows o (λ l. RunsTo x.state left l x.state end) x.lines x.lines x.state x.state end) (sym by) (refl, refl, refl) in
    let one : RunsTo now (e ∷ left) x.lines x.state end = (x.state, x.lines, happens_told now e rest sound, follows) in
    let whole = run-joined m.earlier (e ∷ left) s now x.state m.lines x.lines end m.runs one in
    let there = subst (λ (u : Xinu). RunsTo s (m.earlier ++ e ∷ left) (m.lines ++ x.lines) u end) (sym took.state) whole in
    record {
      lines = m.lines ++ x.lines;
      runs = subst (λ (l : List Event). RunsTo s l (m.lines ++ x.lines) new end) (sym m.are) there;
      splits = split_more bytes rest t.rest.now m.lines x.lines m.splits (took_all x rest t due new took none);
    }

-- as the run ends
at_end : (s last : Xinu) (events : List Event) (bytes rest : List ℕ) (end : End) (m : Mistake) → Ended s events bytes last end rest
    → mistake_in (last_lines last end) rest mistake_past ≡ Some (place_of m) → IsAtEnd s events (first_text s ++ bytes) m.left.now m.due
at_end s last events bytes rest end m k is =
    let x = ends (last_lines last end) rest (place_of m) is in
    record {
      lines = k.lines;
      last = last;
      end = end;
      runs = k.runs;
      begun = x.front;
      more = x.more;
      are = x.are;
      splits = ap (λ b. first_text s ++ b) (split_more bytes rest m.left.now k.lines x.front k.splits x.splits)
          ∙ sym (append_assoc (first_text s) (text (k.lines ++ x.front)) m.left.now);
    }

-- When a mistake is that was found.
abbrev pub FoundWhen : Xinu → List Event → List ℕ → Result (Option Mistake) NoMemory → Type 0
FoundWhen s events bytes found = IfOk found (λ r. IfSome r (λ m. IsWhen s events bytes m.left.now m.due m.when))

pub found_at_end : (s last : Xinu) (events : List Event) (bytes rest : List ℕ) (end : End) (found : Result (Option Mistake) NoMemory)
    → Ended s events bytes last end rest → IfOk found (λ r. FoundAs (mistake_in (last_lines last end) rest mistake_past) r)
    → IfOk found (λ r. IfSome r (λ m. m.when ≡ when.End)) → FoundWhen s events (first_text s ++ bytes) found
found_at_end s last events bytes rest end (Err e) k is late = tt
found_at_end s last events bytes rest end (Ok None) k is late = tt
found_at_end s last events bytes rest end (Ok (Some m)) k is late =
    subst (λ (w : When). IsWhen s events (first_text s ++ bytes) m.left.now m.due w) (sym late) (at_end s last events bytes rest end m k is)

-- a text that begins with some bytes
after_split : (bytes all rest : List ℕ) → after_bytes bytes (Some all) ≡ Some rest → bytes ++ rest ≡ all
after_split bytes all rest e = by_start (starts_with bytes all) refl e
  where
    by_start : (b : Bool) → starts_with bytes all ≡ b → (if b then Some (drop (length bytes) all) else None) ≡ Some rest → bytes ++ rest ≡ all
    by_start true is f = let same : drop (length bytes) all ≡ rest = cc in ap (λ r. bytes ++ r) (sym same) ∙ sym (begun bytes all is)
    by_start false is f = absurd (cc)

-- of a text that begins with the first line
pub found_after : (s : Xinu) (events : List Event) (p : ℕ) (all rest : List ℕ) (found : Result (Option Mistake) NoMemory) → p ≡ s.tables.current
    → after_bytes (line_text (line.Switch p)) (Some all) ≡ Some rest → FoundWhen s events (first_text s ++ rest) found → FoundWhen s events all found
found_after s events p all rest found current first k =
    let same = ap (λ (q : ℕ). line_text (line.Switch q) ++ rest) (sym current) ∙ after_split (line_text (line.Switch p)) all rest first in
    subst (λ (t : List ℕ). FoundWhen s events t found) same k
