-- The schedule: 200,000 events, each on a line of its own.
use Rattle.std.specs.Prelude.{ℕ, zero, suc, ◌==◌, nat_lt, if◌then◌else◌, List, [], ◌∷◌, ◌++◌, codes}
use Rattle.xinu_base.specs.Hexadecimal.{hex_byte}
use Rattle.xinu_base.specs.declared.events.Event.{Event}
use Rattle.xinu_base.specs.declared.events.Event.TheVariants.{Step, Tick, Key, Tx, Disk0, Disk1, Fail0, Fail1, Dump}
use Rattle.workload.specs.Draws.{next, drawn}
use Rattle.workload.specs.Programs.{after_programs}

-- the event of a number below 64: most are steps; the character that is typed is drawn besides
abbrev pub event_of : ℕ → ℕ → Event
event_of n x =
    if nat_lt n 52 then Step
    else if nat_lt n 54 then Tick
    else if nat_lt n 55 then Key (drawn 128 x)
    else if nat_lt n 58 then Tx
    else if nat_lt n 63 then Disk1
    else Fail1

-- the event that is drawn in a state
unfoldable pub event_in : ℕ → Event
event_in x = event_of (drawn 64 x) (next x)

-- the state after it
unfoldable pub after_event : ℕ → ℕ
after_event x = if drawn 64 x == 54 then next (next x) else next x

-- n events
unfoldable pub events_in : ℕ → ℕ → List Event
events_in zero x = []
events_in (suc n) x = event_in x ∷ events_in n (after_event x)

-- how many events there are
abbrev pub event_count : ℕ
event_count = 200000

-- the events that a number gives: they are drawn after the four programs
abbrev pub events : ℕ → List Event
events seed = events_in event_count (after_programs 1 4 seed)

-- an event as a line of a schedule
abbrev pub line_of : Event → List ℕ
line_of Step = codes "step 1"
line_of Tick = codes "tick 1"
line_of (Key b) = codes "type " ++ hex_byte b
line_of Tx = codes "tx 1"
line_of Disk0 = codes "disk0 1"
line_of Disk1 = codes "disk1 1"
line_of Fail0 = codes "fail0"
line_of Fail1 = codes "fail1"
line_of Dump = codes "dump"

-- events as a schedule
unfoldable pub text_of : List Event → List ℕ
text_of [] = []
text_of (event ∷ events) = line_of event ++ 10 ∷ text_of events
