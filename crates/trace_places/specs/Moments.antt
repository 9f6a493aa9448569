-- When a run prints the line in place of which a text has another one: as it starts, in an event, or as it ends.
use Rattle.std.specs.Prelude.{◌≡◌, ◌+◌, ℕ, List, ◌∷◌, ◌++◌, length, Option, Some}
use Rattle.trace_places.specs.Places.{due_lines}
use Rattle.trace_places.specs.declared.mistakes.Moment.{Moment}
use Rattle.trace_places.specs.declared.mistakes.When.{When}
use Rattle.trace_places.specs.declared.mistakes.When.TheVariants as when
use Rattle.transcript_laws.specs.Reading.{last_lines}
use Rattle.transcript_laws.specs.Transcripts.{first_text}
use Rattle.xinu_base.specs.declared.events.End.{End}
use Rattle.xinu_base.specs.declared.events.End.TheVariants.{Schedule}
use Rattle.xinu_base.specs.declared.events.Event.{Event}
use Rattle.xinu_base.specs.declared.lines.TranscriptLine.{TranscriptLine}
use Rattle.xinu_base.specs.declared.lines.TranscriptLine.TheVariants as line
use Rattle.xinu_model.specs.Boot.{Boots, Disks, Loaded, boot_on}
use Rattle.xinu_model.specs.Events.{Happens}
use Rattle.xinu_model.specs.Machine.{Xinu}
use Rattle.xinu_model.specs.Runs.{RunsTo}
use Rattle.xinu_model.specs.Text.{text}

-- In an event. A run goes through all events before it, as many as its number says less one, and leads to a state in which its process is
-- current. From there the event happens. The text has the lines of the run so far, and of the event's lines those before the one that is due.
pub record IsInEvent (s : Xinu) (events : List Event) (bytes left : List ℕ) (due : Option TranscriptLine) (m : Moment) : Type 0 where
  pub earlier : List Event
  pub later : List Event
  pub are : events ≡ earlier ++ m.event ∷ later
  pub number : m.number ≡ length earlier + 1
  pub lines : List TranscriptLine
  pub ahead : Xinu
  pub runs : RunsTo s earlier lines ahead Schedule
  pub process : m.process ≡ ahead.tables.current
  pub begun : List TranscriptLine
  pub line : TranscriptLine
  pub more : List TranscriptLine
  pub new : Xinu
  pub happens : Happens ahead m.event (begun ++ line ∷ more) new
  pub is_due : due ≡ Some line
  pub splits : bytes ≡ first_text s ++ text (lines ++ begun) ++ left

-- As a run ends. The text has the lines of all its events, and of its last lines those before the one that is due, or all of them.
pub record IsAtEnd (s : Xinu) (events : List Event) (bytes left : List ℕ) (due : Option TranscriptLine) : Type 0 where
  pub lines : List TranscriptLine
  pub last : Xinu
  pub end : End
  pub runs : RunsTo s events lines last end
  pub begun : List TranscriptLine
  pub more : List TranscriptLine
  pub are : last_lines last end ≡ begun ++ due_lines due more
  pub splits : bytes ≡ first_text s ++ text (lines ++ begun) ++ left

-- When a run from a state on prints the line that is due: as it starts, if all of the text is left and the first line is due; or later.
abbrev pub IsWhen : Xinu → List Event → List ℕ → List ℕ → Option TranscriptLine → When → Type 0
IsWhen s events bytes left due when.Start = (left ≡ bytes) × (due ≡ Some (line.Switch s.tables.current))
IsWhen s events bytes left due (when.In m) = IsInEvent s events bytes left due m
IsWhen s events bytes left due when.End = IsAtEnd s events bytes left due

-- So it is in the run of a machine that starts with these images on these disks.
pub record IsMoment (disks : Disks) (images : List Loaded) (events : List Event) (bytes left : List ℕ) (due : Option TranscriptLine) (w : When) : Type 0 where
  pub start : Xinu
  pub boots : boot_on disks images ≡ Boots start
  pub when : IsWhen start events bytes left due w
