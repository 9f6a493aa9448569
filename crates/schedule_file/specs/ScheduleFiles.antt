-- Schedule files: which texts read as which events, and the first fault of the others.
use Rattle.std.specs.Prelude.{◌≡◌, ℕ, ◌+◌, nat_lt, nat_le, Bool, if◌then◌else◌, List, [], ◌∷◌, length, Option, Some, None, is_none}
use Rattle.std.specs.Prelude.{unwrap_or}
use Rattle.std.specs.List.{flat_map}
use Rattle.xinu_base.specs.declared.events.Event.{Event}
use Rattle.schedule_file.specs.declared.faults.ScheduleFault.{ScheduleFault}
use Rattle.schedule_file.specs.declared.faults.ScheduleFault.TheVariants.{BadLine, TooMany, NoMemory}
use Rattle.text_lines.specs.Lines.{lines_of}
use Rattle.schedule_file.specs.Numbers.{most_events}
use Rattle.schedule_file.specs.LineKinds.{line_events}

-- a line is bad if it is of none of the forms
abbrev pub is_bad : List ℕ → Bool
is_bad line = is_none (line_events line)

-- the events of a line; a bad line has none
abbrev pub events_at : List ℕ → List Event
events_at line = unwrap_or (line_events line) []

-- the number of the first that passes a test, if they are numbered from n on
abbrev pub first_from : {A : Type 0} → ℕ → (A → Bool) → List A → Option ℕ
first_from n p [] = None
first_from n p (x ∷ xs) = if p x then Some n else first_from (n + 1) p xs

-- how many events there are up to the end of each line, if n come before the lines
abbrev pub sums : ℕ → List (List ℕ) → List ℕ
sums n [] = []
sums n (line ∷ lines) = (n + length (events_at line)) ∷ sums (n + length (events_at line)) lines

-- what a text reads as: events, or a line that is bad or has an event too many
pub data Reading : Type 0 where
  Reads : List Event → Reading
  Bad : ℕ → Reading
  Many : ℕ → Reading

-- The lower one of a bad line and a line with an event too many is named. On one line its form comes first.
abbrev pub judged : Option ℕ → Option ℕ → List Event → Reading
judged None None events = Reads events
judged None (Some many) events = Many many
judged (Some bad) None events = Bad bad
judged (Some bad) (Some many) events = if nat_le bad many then Bad bad else Many many

-- what a text reads as: the events of its lines one after another, unless a line is bad or the sum of events passes the most
unfoldable pub reading : List ℕ → Reading
reading text =
    judged (first_from 1 is_bad (lines_of text)) (first_from 1 (nat_lt most_events) (sums 0 (lines_of text)))
    (flat_map events_at (lines_of text))

-- the events of a reading that has no fault
abbrev pub events_read : Reading → Option (List Event)
events_read (Reads events) = Some events
events_read (Bad line) = None
events_read (Many line) = None

-- the events of a schedule file, if it has no fault
abbrev pub events_in : List ℕ → Option (List Event)
events_in text = events_read (reading text)

-- A fault is that of a text, which then has no events. Want of memory says nothing of the text.
abbrev pub Names : ScheduleFault → List ℕ → Type 0
Names (BadLine line) text = (reading text ≡ Bad line) × (events_in text ≡ None)
Names (TooMany line) text = (reading text ≡ Many line) × (events_in text ≡ None)
Names NoMemory text = Unit {0}
