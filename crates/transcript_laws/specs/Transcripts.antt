-- Which texts are transcripts, and whether a text is one.
use Rattle.std.specs.Prelude.{◌≡◌, ℕ, Bool, false, ◌&&◌, List, [], ◌∷◌, ◌++◌, length, drop}
use Rattle.xinu_base.specs.declared.events.End.{End}
use Rattle.xinu_base.specs.declared.events.Event.{Event}
use Rattle.xinu_base.specs.declared.lines.TranscriptLine.{TranscriptLine}
use Rattle.xinu_base.specs.declared.lines.TranscriptLine.TheVariants as line
use Rattle.xinu_model.specs.Boot.{Boots, Disks, Loaded, Start, boot_on}
use Rattle.xinu_model.specs.Machine.{Xinu}
use Rattle.xinu_model.specs.Runs.{IsTranscript}
use Rattle.xinu_model.specs.Text.{line_text, tables_of, text}
use Rattle.transcript_laws.specs.Reading.{accepts, starts_with}
use Rattle.transcript_laws.specs.Choices.{told}

-- The transcript of a run from a start: the line of its first process, the lines of its events, the tables of its last state, its end.
abbrev pub transcript : Xinu → List TranscriptLine → Xinu → End → List TranscriptLine
transcript start lines last end = line.Switch start.tables.current ∷ lines ++ tables_of last ++ line.End end ∷ []

-- A text is the transcript of a run: it is what the machine prints that starts with these images on these disks, and runs through these
-- events.
pub record IsText (disks : Disks) (images : List Loaded) (events : List Event) (bytes : List ℕ) : Type 0 where
  pub last : Xinu
  pub all : List TranscriptLine
  pub run : IsTranscript disks images events last all
  pub is : bytes ≡ text all

-- the line that is printed first: who runs first
abbrev pub first_text : Xinu → List ℕ
first_text s = line_text (line.Switch s.tables.current)

-- whether a text is accepted of a machine that starts so
abbrev pub checks_from : Start → List Event → List ℕ → Bool
checks_from (Boots s) events bytes = starts_with (first_text s) bytes && accepts told s events (drop (length (first_text s)) bytes)
checks_from _ events bytes = false

-- Whether a text is accepted of the machine that starts with these images on these disks.
abbrev pub checks : Disks → List Loaded → List Event → List ℕ → Bool
checks disks images events bytes = checks_from (boot_on disks images) events bytes
