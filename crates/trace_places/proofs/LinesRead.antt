-- Lines are read off a text one by one.
use Rattle.std.proofs.Common.{◌≡◌, ◌∙◌, ◌+◌, ◌<◌, ℕ, suc, Bool, true, false, if◌then◌else◌, List, [], ◌∷◌, ◌++◌, drop, drop-cons, length, Option, Some, None, refl, sym, ap, arith}
use Rattle.std.specs.Prelude.{IfOk, Result, Ok, Err, slice_index_or}
use Rattle.xinu_base.specs.declared.lines.TranscriptLine.{TranscriptLine}
use Rattle.xinu_base.specs.declared.NoMemory.{NoMemory}
use Rattle.xinu_base.specs.declared.events.End.{End}
use Rattle.xinu_base.specs.declared.events.Event.{Event}
use Rattle.xinu_model.specs.Events.{effect_of}
use Rattle.xinu_model.specs.Machine.{Xinu}
use Rattle.xinu_model.specs.Runs.{end_with, is_over}
use Rattle.xinu_model.specs.Text.{line_text}
use Rattle.transcript_laws.specs.Choices.{told}
use Rattle.transcript_laws.specs.Reading.{starts_with}
use Rattle.reference_check.specs.Places.{after_bytes}
use Rattle.trace_places.specs.Places.{Place, mistake_after, mistake_from, mistake_in}
use Rattle.trace_places.specs.Reading.{FoundAs, TookSo, read_to}
use Rattle.trace_places.specs.declared.mistakes.Mistake.{Mistake}
use Rattle.trace_places.specs.declared.walk.Taken.{Taken}

-- a line that a text begins with, and one that it doesn't
pub line_read : (l : TranscriptLine) (lines : List TranscriptLine) (rest left : List ℕ) (next : List ℕ → Option Place)
    → after_bytes (line_text l) (Some rest) ≡ Some left → mistake_in (l ∷ lines) rest next ≡ mistake_in lines left next
line_read l lines rest left next e = by_start (starts_with (line_text l) rest) (drop (length (line_text l)) rest) e
  where
    by_start : (t : Bool) (d : List ℕ) → (if t then Some d else None) ≡ Some left
        → (if t then mistake_in lines d next else Some (record { left = rest; due = Some l })) ≡ mistake_in lines left next
    by_start true d f = let same : d ≡ left = cc in ap (λ r. mistake_in lines r next) same
    by_start false d f = absurd (cc)

pub line_wrong : (l : TranscriptLine) (lines : List TranscriptLine) (rest : List ℕ) (next : List ℕ → Option Place)
    → after_bytes (line_text l) (Some rest) ≡ None → mistake_in (l ∷ lines) rest next ≡ Some (record { left = rest; due = Some l })
line_wrong l lines rest next e = by_start (starts_with (line_text l) rest) (drop (length (line_text l)) rest) e
  where
    by_start : (t : Bool) (d : List ℕ) → (if t then Some d else None) ≡ None
        → (if t then mistake_in lines d next else Some (record { left = rest; due = Some l })) ≡ Some (record { left = rest; due = Some l })
    by_start true d f = absurd (cc)
    by_start false d f = refl

-- the lines from a place on begin with the line there
pub line_at : (lines : List TranscriptLine) (i : ℕ) (l : TranscriptLine) → i < length lines → slice_index_or lines i l ≡ l
    → drop i lines ≡ l ∷ drop (i + 1) lines
line_at lines i l h is =
    let next : suc i ≡ i + 1 = omega arith in
    drop-cons lines i l h ∙ ap (λ (x : TranscriptLine). x ∷ drop (suc i) lines) is ∙ ap (λ n. l ∷ drop n lines) next

-- lines after others
pub read_both : (xs ys : List TranscriptLine) (rest : List ℕ) (next : List ℕ → Option Place)
    → mistake_in (xs ++ ys) rest next ≡ mistake_in xs rest (λ more. mistake_in ys more next)
read_both [] ys rest next = refl
read_both (l ∷ xs) ys rest next =
    let left = drop (length (line_text l)) rest in
    ap (λ (o : Option Place). if starts_with (line_text l) rest then o else Some (record { left = rest; due = Some l })) (read_both xs ys left next)

-- the lines that are printed at the end of a run: a mistake in the tables, or none
pub tables_wrong : (tables all : List TranscriptLine) (l last : TranscriptLine) (bytes rest : List ℕ) (next : List ℕ → Option Place) (due : Option TranscriptLine)
    → all ≡ tables → due ≡ Some l → ((go : List ℕ → Option Place) → mistake_in all bytes go ≡ read_to rest due go)
    → mistake_in (tables ++ last ∷ []) bytes next ≡ Some (record { left = rest; due = Some l })
tables_wrong tables all l last bytes rest next due same is reads =
    let go : List ℕ → Option Place = λ more. mistake_in (last ∷ []) more next in
    read_both tables (last ∷ []) bytes next ∙ ap (λ ls. mistake_in ls bytes go) (sym same) ∙ reads go ∙ ap (λ d. read_to rest d go) is

pub tables_read : (tables all : List TranscriptLine) (last : TranscriptLine) (bytes rest : List ℕ) (next : List ℕ → Option Place) (due : Option TranscriptLine)
    → all ≡ tables → due ≡ None → ((go : List ℕ → Option Place) → mistake_in all bytes go ≡ read_to rest due go)
    → mistake_in (tables ++ last ∷ []) bytes next ≡ mistake_in (last ∷ []) rest next
tables_read tables all last bytes rest next due same is reads =
    let go : List ℕ → Option Place = λ more. mistake_in (last ∷ []) more next in
    read_both tables (last ∷ []) bytes next ∙ ap (λ ls. mistake_in ls bytes go) (sym same) ∙ reads go ∙ ap (λ d. read_to rest d go) is

-- what was found is found of an equal place
pub found_same : (o p : Option Place) (found : Option Mistake) → o ≡ p → FoundAs p found → FoundAs o found
found_same o p None same is = same ∙ is
found_same o p (Some m) same is = same ∙ is

-- after an event
pub event_wrong : (s new : Xinu) (e : Event) (events : List Event) (rest : List ℕ) (t : Taken) (l : TranscriptLine) (due : Option TranscriptLine)
    → TookSo (effect_of s e (told s e rest)) rest t due new → due ≡ Some l
    → mistake_from s (e ∷ events) rest ≡ Some (record { left = t.rest.now; due = Some l })
event_wrong s new e events rest t l due took is =
    let x = effect_of s e (told s e rest) in
    let next : List ℕ → Option Place =
    λ more. mistake_after (end_with x.panics (is_over x.state)) (λ y. mistake_from x.state events y) x.state more in
    took.reads next ∙ ap (λ d. read_to t.rest.now d next) is

pub event_read : (s new : Xinu) (e : Event) (events : List Event) (rest : List ℕ) (t : Taken) (due : Option TranscriptLine)
    → TookSo (effect_of s e (told s e rest)) rest t due new → due ≡ None
    → mistake_from s (e ∷ events) rest ≡ mistake_after t.end (λ y. mistake_from new events y) new t.rest.now
event_read s new e events rest t due took is =
    let x = effect_of s e (told s e rest) in
    let next : List ℕ → Option Place =
    λ more. mistake_after (end_with x.panics (is_over x.state)) (λ y. mistake_from x.state events y) x.state more in
    took.reads next ∙ ap (λ d. read_to t.rest.now d next) is
    ∙ ap (λ (o : Option End). mistake_after o (λ y. mistake_from x.state events y) x.state t.rest.now) (sym took.end)
    ∙ ap (λ (u : Xinu). mistake_after t.end (λ y. mistake_from u events y) u t.rest.now) (sym took.state)

-- so of an answer that may be out of memory
pub found_if : (o p : Option Place) (found : Result (Option Mistake) NoMemory) → o ≡ p → IfOk found (λ m. FoundAs p m) → IfOk found (λ m. FoundAs o m)
found_if o p (Ok m) same is = found_same o p m same is
found_if o p (Err e) same is = tt
