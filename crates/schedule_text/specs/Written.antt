-- How events are written: equal events in a row that can be counted are one line.
use Rattle.std.specs.Prelude.{ℕ, suc, ◌<◌, Bool, true, false, if◌then◌else◌, List, [], ◌∷◌, ◌++◌, codes}
use Rattle.std.specs.List.{flat_map, All}
use Rattle.std.specs.Fmt.{decimal}
use Rattle.xinu_base.specs.Hexadecimal.{hex_byte}
use Rattle.xinu_base.specs.declared.events.Event.{Event}
use Rattle.xinu_base.specs.declared.events.Event.TheVariants.{Step, Tick, Key, Tx, Disk0, Disk1, Fail0, Fail1, Dump}

-- an event, and how often it comes one time after another
pub record Repeated : Type 0 where
  pub event : Event
  pub count : ℕ

-- whether the second of two events that come one after the other is counted on the line of the first
abbrev pub is_joined : Event → Event → Bool
is_joined Step Step = true
is_joined Tick Tick = true
is_joined Tx Tx = true
is_joined Disk0 Disk0 = true
is_joined Disk1 Disk1 = true
is_joined event next = false

-- one more event before repeats
abbrev pub joined : Event → List Repeated → List Repeated
joined event [] = record { event = event; count = 1 } ∷ []
joined event (first ∷ rest) =
    if is_joined event first.event then record { event = event; count = suc first.count } ∷ rest
    else record { event = event; count = 1 } ∷ first ∷ rest

-- events as repeats: as few as can be
unfoldable pub repeats_of : List Event → List Repeated
repeats_of [] = []
repeats_of (event ∷ events) = joined event (repeats_of events)

-- a name and a count
abbrev pub counted : List ℕ → ℕ → List ℕ
counted name count = name ++ 32 ∷ decimal count

-- the line that asks for so many of an event; for one, if the event can't be counted
abbrev pub line_of : Event → ℕ → List ℕ
line_of Step count = counted (codes "step") count
line_of Tick count = counted (codes "tick") count
line_of (Key b) count = codes "type " ++ hex_byte b
line_of Tx count = counted (codes "tx") count
line_of Disk0 count = counted (codes "disk0") count
line_of Disk1 count = counted (codes "disk1") count
line_of Fail0 count = codes "fail0"
line_of Fail1 count = codes "fail1"
line_of Dump count = codes "dump"

-- a repeat as a line of a text
abbrev pub line_text : Repeated → List ℕ
line_text repeat = line_of repeat.event repeat.count ++ 10 ∷ []

-- events as the text of a schedule file
abbrev pub schedule_text : List Event → List ℕ
schedule_text events = flat_map line_text (repeats_of events)

-- a character that is typed is a byte
abbrev pub IsWritten : Event → Type 0
IsWritten (Key b) = b < 256
IsWritten _ = Unit {0}

-- all events are written
abbrev pub AreWritten : List Event → Type 0
AreWritten events = All IsWritten events
