-- All lines of a schedule that is written, read one after another.
use Rattle.std.proofs.Common.{◌≡◌, ◌∙◌, ℕ, suc, ◌+◌, ◌<◌, ◌≤◌, Bool, true, false, cond, List, [], ◌∷◌, ◌++◌, length, replicate, Some, refl, sym, ap, arith, append_assoc, append-nil, length-append}
use Rattle.std.specs.Prelude.{is_none, unwrap_or}
use Rattle.std.specs.List.{flat_map}
use Rattle.std.proofs.lemmas.List.{length-replicate, take_more}
use Rattle.std.proofs.lemmas.List.Elements.{All-push}
use Rattle.std.proofs.Common.{get_or, take}
use Rattle.xinu_base.specs.declared.events.Event.{Event}
use Rattle.text_lines.specs.Lines.{lines_of}
use Rattle.schedule_file.specs.Numbers.{most_events}
use Rattle.schedule_file.specs.ScheduleFiles.{events_at, events_in, events_read, Reads}
use Rattle.schedule_file.proofs.ReadingLemmas.{read_on, read_on-start, read_on-end, read_on-next}
use Rattle.schedule_text.specs.Written.{Repeated, is_joined, joined, repeats_of, line_of, line_text, schedule_text, IsWritten, AreWritten}
use Rattle.schedule_text.proofs.Joining.{same, repeats_of-nil, repeats_of-cons}
use Rattle.schedule_text.proofs.Reading.{IsLine, line_asks, line_first, line_plain}

-- the events of repeats
abbrev events_of : List Repeated → List Event
events_of repeats = flat_map (λ (repeat : Repeated). replicate repeat.count repeat.event) repeats

-- a repeat that is written comes once or can be counted
record IsRepeat (event : Event) (count : ℕ) : Type 0 where
  pub some : 1 ≤ count
  pub counts : 1 < count → is_joined event event ≡ true
  pub written : IsWritten event

abbrev AreRepeats : List Repeated → Type 0
AreRepeats [] = Unit {0}
AreRepeats (repeat ∷ repeats) = IsRepeat repeat.event repeat.count × AreRepeats repeats

-- ---- one more event

events_by : (b : Bool) (event : Event) (first : Repeated) (rest : List Repeated) → is_joined event first.event ≡ b
    → events_of (cond b (record { event = event; count = suc first.count } ∷ rest) (record { event = event; count = 1 } ∷ first ∷ rest))
    ≡ event ∷ events_of (first ∷ rest)
events_by true event first rest is =
    ap (λ (e : Event). event ∷ (replicate first.count e ++ events_of rest)) (same event first.event is)
events_by false event first rest is = refl

events_of-joined : (event : Event) (repeats : List Repeated) → events_of (joined event repeats) ≡ event ∷ events_of repeats
events_of-joined event [] = refl
events_of-joined event (first ∷ rest) = events_by (is_joined event first.event) event first rest refl

-- the repeats of events stand for these events
events_of-repeats_of : (events : List Event) → events_of (repeats_of events) ≡ events
events_of-repeats_of [] = ap events_of repeats_of-nil
events_of-repeats_of (event ∷ events) =
    ap events_of (repeats_of-cons event events)
    ∙ events_of-joined event (repeats_of events)
    ∙ ap (λ (rest : List Event). event ∷ rest) (events_of-repeats_of events)

are_by : (b : Bool) (event : Event) (first : Repeated) (rest : List Repeated) → is_joined event first.event ≡ b → IsWritten event
    → AreRepeats (first ∷ rest)
    → AreRepeats (cond b (record { event = event; count = suc first.count } ∷ rest) (record { event = event; count = 1 } ∷ first ∷ rest))
are_by true event first rest is written are =
    let equal : event ≡ first.event = same event first.event is in
    let joins : is_joined event event ≡ true = ap (is_joined event) equal ∙ is in
    (record { some = omega arith; counts = λ many. joins; written = written }, are.1)
are_by false event first rest is written are = (record { some = omega arith; counts = λ many. absurd (omega arith); written = written }, are)

are_joined : (event : Event) (repeats : List Repeated) → IsWritten event → AreRepeats repeats → AreRepeats (joined event repeats)
are_joined event [] written are = (record { some = omega arith; counts = λ many. absurd (omega arith); written = written }, tt)
are_joined event (first ∷ rest) written are = are_by (is_joined event first.event) event first rest refl written are

are_repeats : (events : List Event) → AreWritten events → AreRepeats (repeats_of events)
are_repeats [] written = rw repeats_of-nil tt
are_repeats (event ∷ events) written =
    let head : IsWritten event = written 0 event (omega arith) in
    let rest : AreWritten events = λ k d within. written (suc k) d (omega arith) in
    rw (repeats_of-cons event events) (are_joined event (repeats_of events) head (are_repeats events rest))

-- ---- all lines

-- lines are read after other events
reads_on : (k : ℕ) (before : List Event) (repeats : List Repeated) → AreRepeats repeats → length before + length (events_of repeats) ≤ most_events
    → read_on k before (lines_of (flat_map line_text repeats)) ≡ Reads (before ++ events_of repeats)
reads_on k before [] are few = read_on-end k before ∙ ap Reads (sym (append-nil before))
reads_on k before (repeat ∷ repeats) are few =
    let these = replicate repeat.count repeat.event in
    let line = line_of repeat.event repeat.count in
    let text = flat_map line_text repeats in
    let size : length before + repeat.count + length (events_of repeats) ≤ most_events =
    omega (arith, few, length-append these (events_of repeats), length-replicate repeat.count repeat.event) in
    let is : IsLine repeat.event repeat.count = record { some = are.0.some; few = omega arith; counts = are.0.counts; written = are.0.written } in
    let asks = line_asks repeat.event repeat.count is in
    let one : events_at line ≡ these = ap (λ o. unwrap_or o []) asks in
    let first : lines_of (flat_map line_text (repeat ∷ repeats)) ≡ line ∷ lines_of text =
    ap lines_of (append_assoc line (10 ∷ []) text) ∙ line_first line text (line_plain repeat.event repeat.count is) in
    ap (read_on k before) first
    ∙ read_on-next k before line (lines_of text) (ap is_none asks)
    (omega (arith, size, ap length one, length-replicate repeat.count repeat.event))
    ∙ ap (λ (es : List Event). read_on (k + 1) (before ++ es) (lines_of text)) one
    ∙ reads_on (k + 1) (before ++ these) repeats are.1
    (omega (arith, size, length-append before these, length-replicate repeat.count repeat.event))
    ∙ ap Reads (append_assoc before these (events_of repeats))

-- the text of events reads as these events
pub text_reads : (events : List Event) → AreWritten events → length events ≤ most_events → events_in (schedule_text events) ≡ Some events
text_reads events written few =
    let whole = events_of-repeats_of events in
    ap events_read
    (sym (read_on-start (schedule_text events))
    ∙ reads_on 1 [] (repeats_of events) (are_repeats events written) (omega (arith, few, ap length whole))
    ∙ ap Reads whole)

-- one more event of a list is written
pub written_more : (events : List Event) (k : ℕ) (d : Event) → k < length events → AreWritten (take k events) → IsWritten (get_or events k d)
    → AreWritten (take (k + 1) events)
written_more events k d within written one = rw (take_more events k d within) (All-push IsWritten (take k events) (get_or events k d) written one)
