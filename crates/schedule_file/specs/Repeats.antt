-- Repeats: what is kept of a schedule.
use Rattle.std.specs.Prelude.{◌≡◌, ℕ, ◌+◌, ◌<◌, ◌≤◌, true, false, List, [], length, map, replicate, drop, slice_get, IfSome}
use Rattle.std.specs.List.{All, flat_map}
use Rattle.xinu_base.specs.declared.events.Event.{Event}
use Rattle.xinu_base.specs.declared.events.Event.TheVariants.{Key}
use Rattle.schedule_file.specs.declared.faults.ScheduleFault.{ScheduleFault}
use Rattle.schedule_file.specs.declared.faults.ScheduleFault.TheVariants.{BadLine, TooMany, NoMemory}
use Rattle.schedule_file.specs.declared.repeats.Repeat.{Repeat}
use Rattle.schedule_file.specs.declared.repeats.Repeat.TheVariants.{Same, Rounds}
use Rattle.schedule_file.specs.declared.line_events.LineEvents.{LineEvents}
use Rattle.schedule_file.specs.declared.line_events.LineEvents.TheVariants.{Nothing, Repeated, Typed}
use Rattle.schedule_file.specs.Numbers.{most_events}
use Rattle.schedule_file.specs.LineKinds.{rounds}
use Rattle.schedule_file.specs.ScheduleFiles.{is_bad, events_at}

-- the events of a repeat
abbrev pub repeat_events : Repeat → List Event
repeat_events (Same event count) = replicate count event
repeat_events (Rounds count) = rounds count

-- the events of repeats, one after another
abbrev pub repeats_events : List Repeat → List Event
repeats_events repeats = flat_map repeat_events repeats

-- a repeat of a schedule has an event, and no more than a schedule may have
pub record IsRepeat (repeat : Repeat) : Type 0 where
  pub some : 0 < length (repeat_events repeat)
  pub most : length (repeat_events repeat) ≤ most_events

-- the events that are still to come: those of the repeats from this one on, without the first n, which were taken
abbrev pub to_come : List Repeat → ℕ → ℕ → List Event
to_come repeats next taken = drop taken (repeats_events (drop next repeats))

-- how far a schedule is in its repeats
pub record IsCursor (repeats : List Repeat) (next taken : ℕ) : Type 0 where
  pub each : All IsRepeat repeats
  pub within : next ≤ length repeats
  pub left : IfSome (slice_get repeats next) (λ repeat. taken < length (repeat_events repeat))

-- the events that a line asks for
abbrev pub events_of : LineEvents → List Event
events_of Nothing = []
events_of (Repeated repeat) = repeat_events repeat
events_of (Typed bytes) = map Key bytes.items

-- a repeat that a line asks for has an event
abbrev pub HasEvents : LineEvents → Type 0
HasEvents Nothing = Unit {0}
HasEvents (Repeated repeat) = 0 < length (repeat_events repeat)
HasEvents (Typed bytes) = Unit {0}

-- what is wrong with line k, if n events come before it
abbrev pub IsFaultOf : ScheduleFault → ℕ → List ℕ → ℕ → Type 0
IsFaultOf (BadLine l) k line n = (l ≡ k) × (is_bad line ≡ true)
IsFaultOf (TooMany l) k line n = (l ≡ k) × (is_bad line ≡ false) × (most_events < n + length (events_at line))
IsFaultOf NoMemory k line n = Unit {0}
