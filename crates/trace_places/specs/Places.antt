-- Where a text that isn't a transcript goes wrong.
use Rattle.std.specs.Prelude.{◌≡◌, ◌≤◌, ℕ, if◌then◌else◌, List, [], ◌∷◌, ◌++◌, length, drop, Option, Some, None}
use Rattle.xinu_base.specs.declared.events.End.{End}
use Rattle.xinu_base.specs.declared.events.End.TheVariants.{Schedule}
use Rattle.xinu_base.specs.declared.events.Event.{Event}
use Rattle.xinu_base.specs.declared.lines.TranscriptLine.{TranscriptLine}
use Rattle.xinu_base.specs.declared.lines.TranscriptLine.TheVariants as line
use Rattle.xinu_model.specs.Boot.{Disks, Loaded}
use Rattle.xinu_model.specs.Events.{effect_of}
use Rattle.xinu_model.specs.Machine.{Xinu}
use Rattle.xinu_model.specs.Runs.{IsTranscript, end_with, is_over}
use Rattle.xinu_model.specs.Text.{line_text, text}
use Rattle.transcript_laws.specs.Choices.{told}
use Rattle.transcript_laws.specs.Reading.{last_lines, starts_with}
use Rattle.transcript_laws.specs.Transcripts.{IsText}

-- A place in a text: what is left of it, and the line that a run prints there, unless it has ended.
pub record Place : Type 0 where
  pub left : List ℕ
  pub due : Option TranscriptLine

-- the lines of a run from a place on: the one that is due and others, or none if the run has ended
abbrev pub due_lines : Option TranscriptLine → List TranscriptLine → List TranscriptLine
due_lines None more = []
due_lines (Some l) more = l ∷ more

-- the first of these lines that isn't the next one of a text, and what follows if each is: what is left is told on
abbrev pub mistake_in : List TranscriptLine → List ℕ → (List ℕ → Option Place) → Option Place
mistake_in [] rest next = next rest
mistake_in (l ∷ lines) rest next =
    if starts_with (line_text l) rest then mistake_in lines (drop (length (line_text l)) rest) next else Some (record { left = rest; due = Some l })

-- nothing may be left after the end of a run
abbrev pub mistake_past : List ℕ → Option Place
mistake_past [] = None
mistake_past (b ∷ rest) = Some (record { left = b ∷ rest; due = None })

-- after an event: the last lines if the run ends with it, else the rest of the run
abbrev pub mistake_after : Option End → (List ℕ → Option Place) → Xinu → List ℕ → Option Place
mistake_after (Some end) next s rest = mistake_in (last_lines s end) rest mistake_past
mistake_after None next s rest = next rest

-- Where a text that is read along a run from a state on isn't what the run prints, if it is anywhere. What is chosen in an event is told
-- by the text.
abbrev pub mistake_from : Xinu → List Event → List ℕ → Option Place
mistake_from s [] rest = mistake_in (last_lines s Schedule) rest mistake_past
mistake_from s (e ∷ events) rest =
    let x = effect_of s e (told s e rest) in
    mistake_in x.lines rest (λ more. mistake_after (end_with x.panics (is_over x.state)) (λ y. mistake_from x.state events y) x.state more)

-- The same of a whole text, which begins with the line of the process that runs first.
abbrev pub mistake_of : Xinu → List Event → List ℕ → Option Place
mistake_of s events bytes = mistake_in (line.Switch s.tables.current ∷ []) bytes (λ more. mistake_from s events more)

-- A text goes wrong at a place: the lines before it begin the transcript of a run, which goes on with the line that is due, or has ended;
-- no run's transcript begins with more lines of the text; and the text isn't a transcript.
pub record IsMistake (disks : Disks) (images : List Loaded) (events : List Event) (bytes left : List ℕ) (due : Option TranscriptLine) : Type 0 where
  pub front : List TranscriptLine
  pub more : List TranscriptLine
  pub last : Xinu
  pub splits : bytes ≡ text front ++ left
  pub begins : IsTranscript disks images events last (front ++ due_lines due more)
  pub most : (lines others : List TranscriptLine) (other : Xinu) (rest : List ℕ) → IsTranscript disks images events other (lines ++ others)
      → bytes ≡ text lines ++ rest → length (text lines) ≤ length (text front)
  pub none : IsText disks images events bytes → ⊥
